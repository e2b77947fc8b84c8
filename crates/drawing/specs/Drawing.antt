-- The glass calls that draw a prompt.
use Rattle.std.specs.Prelude.{◌≡◌, ℕ, ◌+◌, ◌-◌, ◌≤◌, min, true, cond, List, [], ◌∷◌, ◌++◌, length, take, drop, nat_le, nat_lt}
use Rattle.std.proofs.Math.Utf8.{scalars}
use Rattle.font.specs.declared.Columns.{Columns}
use Rattle.font.specs.declared.Columns.TheVariants.{NoWidth, Zero, One, Two}
use Rattle.font.specs.Labels.{label as spelling}
use Rattle.glass.specs.declared.PenChange.TheVariants.{Plain, Prompt, ReverseOn, ReverseOff}
use Rattle.glass.specs.Row.{Row, blank_row, width_of}
use Rattle.glass.specs.Calls.{GlassCall, place, pen, text, clear, apply_all, cost_of_all, Allowed}
use Rattle.drawing.specs.Ascii.{printable}
use Rattle.draft.specs.Draft.{Draft}
use Rattle.draft.specs.Scroll.{shown_columns}

-- characters that were gathered go out as one text
abbrev pub sent : (run : List ℕ) → List GlassCall → List GlassCall
sent [] ks = ks
sent (c ∷ cs) ks = text (c ∷ cs) ∷ ks

-- the last run, and the rest of the row cleared
abbrev pub ended : (width column : ℕ) → (run : List ℕ) → List GlassCall
ended width column run = sent run (cond (nat_lt column width) (clear ∷ []) [])

abbrev pub reversed : List ℕ → List GlassCall → List GlassCall
reversed cs ks = pen ReverseOn ∷ text cs ∷ pen ReverseOff ∷ ks

-- a character of so many columns joins the run; drawing stops before one that would pass the width
abbrev pub joined : (width column : ℕ) → (run : List ℕ) → ℕ → (on : ℕ → List GlassCall) → List GlassCall
joined width column run columns on = cond (nat_lt width (column + columns)) (ended width column run) (on (column + columns))

-- a spelling that is cut to the columns left; drawing stops after one that fills the row
abbrev pub spelled : (width column : ℕ) → List ℕ → (on : ℕ → List GlassCall) → List GlassCall
spelled width column cs on = reversed cs (cond (nat_le width (column + length cs)) [] (on (column + length cs)))

-- one character, by what its font gives it, after a run that has yet to be sent; `on` draws the rest
abbrev pub piece : Columns → (width column : ℕ) → (run : List ℕ) → (c : ℕ) → (on : ℕ → List ℕ → List GlassCall) → List GlassCall
piece NoWidth width column run c on = sent run (spelled width column (take (width - column) (spelling c)) (λ k. on k []))
piece Zero width column run c on = joined width column run 0 (λ k. on k (run ++ (c ∷ [])))
piece One width column run c on = joined width column run 1 (λ k. on k (run ++ (c ∷ [])))
piece Two width column run c on = joined width column run 2 (λ k. on k (run ++ (c ∷ [])))

abbrev pub pieces : (ℕ → Columns) → (width column : ℕ) → (run : List ℕ) → List ℕ → List GlassCall
pieces columns width column run [] = ended width column run
pieces columns width column run (c ∷ cs) = piece (columns c) width column run c (λ k more. pieces columns width k more cs)

-- the most characters of a label
abbrev pub longest_label : ℕ
longest_label = 32

-- two spaces, the label, and two more
abbrev pub text_start : (label : List ℕ) → ℕ
text_start label = length label + 4

abbrev pub cursor_column : (ℕ → Columns) → (label : List ℕ) → Draft → ℕ
cursor_column columns label d = text_start label + shown_columns columns d.line d.offset

-- the label in front, and the cursor placed at the end
abbrev pub framed : (ℕ → Columns) → (label shown : List ℕ) → (cursor width : ℕ) → List GlassCall
framed columns label shown cursor width =
    place 0 ∷ pen Prompt ∷ text (0x20 ∷ 0x20 ∷ (label ++ (0x20 ∷ []))) ∷ pen Plain ∷ text (0x20 ∷ []) ∷
    (pieces columns width (text_start label) [] shown ++ (place cursor ∷ []))

abbrev pub drawing : (ℕ → Columns) → (label : List ℕ) → Draft → (width : ℕ) → List GlassCall
drawing columns label d width = framed columns label (drop d.offset d.line.text) (min (cursor_column columns label d) (width - 1)) width

-- what a drawing leaves does not depend on what the row showed before
abbrev pub DrawingForgets : Type 0
DrawingForgets =
    (columns : ℕ → Columns) → ((c : ℕ) → 0x20 ≤ c → c ≤ 0x7E → columns c ≡ One) →
    (label : List ℕ) (d : Draft) (r : Row) → printable label ≡ true → text_start label ≤ width_of r →
    apply_all columns (drawing columns label d (width_of r)) r ≡ apply_all columns (drawing columns label d (width_of r)) (blank_row (width_of r))

-- even with a reshape before it, a drawing costs less than 1,300, under any font
abbrev pub DrawingCosts : Type 0
DrawingCosts =
    (columns : ℕ → Columns) (label : List ℕ) (d : Draft) (width : ℕ) → length label ≤ 32 → width ≤ 512 → length d.line.text ≤ 256 →
    cost_of_all (drawing columns label d width) ≤ 1298

-- so no call of a drawing is refused where the spare is 1,298
abbrev pub DrawingIsAllowed : Type 0
DrawingIsAllowed =
    (columns : ℕ → Columns) (label : List ℕ) (d : Draft) (r : Row) (spare : ℕ) → printable label ≡ true → length label ≤ 32 →
    1 ≤ width_of r → width_of r ≤ 512 → length d.line.text ≤ 256 → scalars d.line.text ≡ true → 1298 ≤ spare →
    Allowed columns (drawing columns label d (width_of r)) r spare
