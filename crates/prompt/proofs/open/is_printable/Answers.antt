use Rattle.std.proofs.Common.{◌≡◌, ℕ, Bool, true, false, ◌&&◌, List, [], ◌∷◌, leb, refl, ◌∙◌, ap, rules}
use Rattle.std.specs.List.{list_all}
use Rattle.std.proofs.lemmas.Iterator.{YieldsList-from_slice}
use Rattle.std.proofs.lemmas.Iterator.Search.{all_from_yields_List}
use borrow.Author.Tests.{tests}
use Rattle.drawing.specs.Ascii.{printable}
use Rattle.prompt.proofs.open.is_printable.Goals as goal

abbrev visible : ℕ → Bool
visible c = leb 0x20 c && leb c 0x7E

regrouped : (a b c : Bool) → ((a && b) && c) ≡ (a && b && c)
regrouped true b c = refl
regrouped false b c = refl

all_visible : (cs : List ℕ) → list_all visible cs ≡ printable cs
all_visible [] = refl
all_visible (c ∷ cs) = ap (λ b. visible c && b) (all_visible cs) ∙ regrouped (leb 0x20 c) (leb c 0x7E) (printable cs)

pub returns : goal.returns
returns c =
    record { value = all_from_yields_List visible _ _ c.all.result c.all.ensures.ran (YieldsList-from_slice c.args.label.now cc) (λ x b q k. search (rules, tests)) ∙ all_visible c.args.label.now }
