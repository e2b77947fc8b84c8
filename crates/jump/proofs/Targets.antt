-- From the number in a text to the line that it names.
use Rattle.std.proofs.Common.{◌≡◌, ◌==◌, ℕ, Bool, true, false, cond, ℤ, Ok, Err, Result, MatchBool, ap, ◌∙◌}
use Rattle.text.specs.declared.refusal.Refusal.{Refusal}
use Rattle.text.specs.declared.refusal.Refusal.TheVariants.{NoLines}
use Rattle.jump.specs.declared.goto.Jump.{Jump}
use Rattle.jump.specs.declared.goto.Jump.TheVariants.{Line}
use Rattle.jump.specs.Goto.{to_line, LeadsBy}

pub line_reached : (at : ℤ → ℕ → ℕ) (Names : ℤ → ℕ → Type 0) (lines : ℕ) (read : Result ℤ Refusal) (result : Result Jump Refusal)
    → ((n : ℤ) (line : ℕ) → Names n line → line ≡ at n lines) → LeadsBy Names lines read result → result ≡ to_line at lines read
line_reached at Names lines (Err fault) result here led = led
line_reached at Names lines (Ok n) result here led = by (lines == 0) led
  where
    by : (none : Bool) → MatchBool none (result ≡ Err NoLines) ((line : ℕ) × Names n line × (result ≡ Ok (Line line))) → result ≡ cond none (Err NoLines) (Ok (Line (at n lines)))
    by true refused = refused
    by false (line, named, e) = e ∙ ap (λ l. Ok (Line l)) (here n line named)
