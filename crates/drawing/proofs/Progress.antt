-- How far a drawing has come: the calls that are left, one after another and piece by piece.
use Rattle.std.proofs.Common.{Bor, ◌≡◌, ℕ, ◌+◌, ◌-◌, ◌<◌, ◌≤◌, cond, ltb, leb, List, [], ◌∷◌, ◌++◌, length, get_or, take, ap, ◌∙◌, subst, arith}
use Rattle.font.specs.declared.Columns.{Columns}
use Rattle.font.specs.Labels.{label as spelling, char_columns, text_columns}
use Rattle.glass.specs.Row.{Row}
use Rattle.glass.specs.Calls.{GlassCall, Allowed, Drew}
use Rattle.glass.specs.Ties.{Tied, StaysTied}
use Rattle.glass.proofs.Drew.{allowed_front}
use Rattle.glass.proofs.DrewTied.{LeadsTied, both, leads_none, leads_on, untied_drew}
use Rattle.drawing.specs.Drawing.{sent, reversed, pieces}
use Rattle.drawing.specs.declared.piece.Piece.TheVariants.{Run, Label}
use Rattle.drawing.specs.Piece.{StandsFirst}
use Rattle.drawing.proofs.Steps.{run_drawn, label_first}

-- Of the calls that are left the first, `now`, are allowed, and where they are made those of `later` are left.
pub record Step {G : Type 0} (columns : ℕ → Columns) (row : G → Row) (spare : G → ℕ) (tied : G → Tied) (all now later : List GlassCall) (g h : G) : Type 0 where
  pub allowed : Allowed columns now (row h) (spare h)
  pub after : (i : G) → Drew columns row spare now h i → StaysTied now (tied h) (tied i) → LeadsTied columns row spare tied all later g i

module _ {G : Type 0} {columns : ℕ → Columns} {row : G → Row} {spare : G → ℕ} {tied : G → Tied} {all : List GlassCall} {g h : G} where
  pub step : (now later : List GlassCall) → LeadsTied columns row spare tied all (now ++ later) g h → Step columns row spare tied all now later g h
  step now later left = record {
    allowed = allowed_front columns now later (row h) (spare h) left.allowed;
    after = λ i drew keeps. leads_on columns row spare tied all now later g h i left (both columns row spare tied drew keeps);
  }

  pub may_call : {k : GlassCall} {ks : List GlassCall} → LeadsTied columns row spare tied all (k ∷ ks) g h → Allowed columns (k ∷ []) (row h) (spare h)
  may_call {k} {ks} left = (step (k ∷ []) ks left).allowed

  pub called : {k : GlassCall} {ks : List GlassCall} {i : G} → LeadsTied columns row spare tied all (k ∷ ks) g h
      → record { drew : Drew columns row spare (k ∷ []) h i; keeps : StaysTied (k ∷ []) (tied h) (tied i) } → LeadsTied columns row spare tied all ks g i
  called {k} {ks} {i} left made = (step (k ∷ []) ks left).after i made.drew made.keeps

  -- all were made
  pub none_left : LeadsTied columns row spare tied all [] g h → Drew columns row spare all g h × StaysTied all (tied g) (tied h)
  none_left left = let d = leads_none columns row spare tied all g h left in (untied_drew columns row spare tied d, d.stays_tied)

module _ {G : Type 0} {columns : ℕ → Columns} {row : G → Row} {spare : G → ℕ} {tied : G → Tied} {all : List GlassCall} {g h : G} (width col : ℕ) (rest after : List ℕ)
    (inside : col ≤ width) (left : LeadsTied columns row spare tied all (pieces columns width col [] rest) g h) where
  -- where a run stands first, its characters that fit go out, and then nothing if there are others
  pub run_step : (run : Bor (List ℕ)) (count taken : ℕ) → StandsFirst columns rest (Run run) after
      → taken ≡ text_columns columns (take count run.now) → taken ≤ width - col → (count < length run.now → width - col < taken + char_columns columns (get_or run.now count 0))
      → Step columns row spare tied all (sent (take count run.now) []) (pieces columns width (col + taken) [] (cond (ltb count (length run.now)) [] after)) g h
  run_step run count taken stands e fits past =
      let drawn = run_drawn columns width run.now after count col taken stands.2 stands.3 e (omega arith) (λ more. omega (arith, past more)) in
      step _ _ (subst (λ (ks : List GlassCall). LeadsTied columns row spare tied all ks g h) (ap (pieces columns width col []) stands.0 ∙ drawn) left)

  -- where a label stands first it goes out, and then nothing if it fills the row
  pub label_step : (code : ℕ) → StandsFirst columns rest (Label code) after
      → let shown = take (width - col) (spelling code) in
      Step columns row spare tied all (reversed shown []) (pieces columns width (col + length shown) [] (cond (leb width (col + length shown)) [] after)) g h
  label_step code stands =
      let drawn = label_first columns width code col after stands.1 in
      step _ _ (subst (λ (ks : List GlassCall). LeadsTied columns row spare tied all ks g h) (ap (pieces columns width col []) stands.0 ∙ drawn) left)
