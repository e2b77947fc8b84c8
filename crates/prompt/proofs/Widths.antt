-- Only a resize changes the width.
use Rattle.std.proofs.Common.{◌≡◌, ℕ, ◌+◌, ◌-◌, Bool, true, false, cond, ltb, leb, List, [], ◌∷◌, ◌++◌, length, take, drop, refl, ◌∙◌}
use lib.ListN.{length-replicate}
use Rattle.font.specs.declared.Columns.{Columns}
use Rattle.font.specs.declared.Columns.TheVariants.{NoWidth, Zero, One, Two}
use Rattle.font.specs.Labels.{label as spelling}
use Rattle.glass.specs.Row.{Row, blank_cell, width_of}
use Rattle.glass.specs.Calls.{GlassCall, place, pen, text, clear, reshape, apply, apply_all}
use Rattle.glass.proofs.Front.{text_width, cleared_width}
use Rattle.draft.specs.Draft.{Draft}
use Rattle.draft.specs.declared.action.DisplayAction.{DisplayAction}
use Rattle.draft.specs.declared.action.DisplayAction.TheVariants as action
use Rattle.prompt.specs.declared.keys.Edit.TheVariants.{Insert}
use Rattle.prompt.specs.declared.keys.Operation.{Operation}
use Rattle.prompt.specs.declared.keys.Operation.TheVariants as operation
use Rattle.prompt.specs.Keys.{operation as operation_of}
use Rattle.drawing.specs.Drawing.{sent, ended, joined, spelled, piece, pieces, text_start, drawing}
use Rattle.prompt.specs.Requests.{Request, draw, key, paste, resize}
use Rattle.prompt.specs.Refused.{width_after}
use Rattle.prompt.specs.Session.{Session, draft_in_hand, drawn, after, action_of, calls_by, glass_calls}

-- calls that reshape nothing
abbrev Quiet : List GlassCall → Type 0
Quiet [] = Unit {0}
Quiet (place k ∷ ks) = Quiet ks
Quiet (pen p ∷ ks) = Quiet ks
Quiet (text cs ∷ ks) = Quiet ks
Quiet (clear ∷ ks) = Quiet ks
Quiet (reshape w ∷ ks) = ⊥

keeps_width : (columns : ℕ → Columns) (ks : List GlassCall) (r : Row) → Quiet ks → width_of (apply_all columns ks r) ≡ width_of r
keeps_width columns [] r q = refl
keeps_width columns (place k ∷ ks) r q = keeps_width columns ks (apply columns (place k) r) q
keeps_width columns (pen p ∷ ks) r q = keeps_width columns ks (apply columns (pen p) r) q
keeps_width columns (text cs ∷ ks) r q = keeps_width columns ks (apply columns (text cs) r) q ∙ text_width columns cs r
keeps_width columns (clear ∷ ks) r q = keeps_width columns ks (apply columns clear r) q ∙ cleared_width r
keeps_width columns (reshape w ∷ ks) r q = absurd q

quiet_cond : (b : Bool) (xs ys : List GlassCall) → Quiet xs → Quiet ys → Quiet (cond b xs ys)
quiet_cond true xs ys p q = p
quiet_cond false xs ys p q = q

quiet_sent : (run : List ℕ) (ks : List GlassCall) → Quiet ks → Quiet (sent run ks)
quiet_sent [] ks q = q
quiet_sent (c ∷ cs) ks q = q

quiet_ended : (width col : ℕ) (run : List ℕ) → Quiet (ended width col run)
quiet_ended width col run = quiet_sent run _ (quiet_cond (ltb col width) (clear ∷ []) [] tt tt)

quiet_joined : (width col : ℕ) (run : List ℕ) (n : ℕ) (on : ℕ → List GlassCall) → ((k : ℕ) → Quiet (on k)) → Quiet (joined width col run n on)
quiet_joined width col run n on q = quiet_cond (ltb width (col + n)) (ended width col run) (on (col + n)) (quiet_ended width col run) (q (col + n))

quiet_piece : (w : Columns) (width col : ℕ) (run : List ℕ) (c : ℕ) (on : ℕ → List ℕ → List GlassCall) → ((k : ℕ) (more : List ℕ) → Quiet (on k more)) → Quiet (piece w width col run c on)
quiet_piece NoWidth width col run c on q =
    quiet_sent run (spelled width col (take (width - col) (spelling c)) (λ k. on k []))
    (quiet_cond (leb width (col + length (take (width - col) (spelling c)))) [] (on (col + length (take (width - col) (spelling c))) []) tt (q (col + length (take (width - col) (spelling c))) []))
quiet_piece Zero width col run c on q = quiet_joined width col run 0 (λ k. on k (run ++ (c ∷ []))) (λ k. q k (run ++ (c ∷ [])))
quiet_piece One width col run c on q = quiet_joined width col run 1 (λ k. on k (run ++ (c ∷ []))) (λ k. q k (run ++ (c ∷ [])))
quiet_piece Two width col run c on q = quiet_joined width col run 2 (λ k. on k (run ++ (c ∷ []))) (λ k. q k (run ++ (c ∷ [])))

quiet_pieces : (columns : ℕ → Columns) (width : ℕ) (cs : List ℕ) (col : ℕ) (run : List ℕ) → Quiet (pieces columns width col run cs)
quiet_pieces columns width [] col run = quiet_ended width col run
quiet_pieces columns width (c ∷ cs) col run = quiet_piece (columns c) width col run c (λ k more. pieces columns width k more cs) (λ k more. quiet_pieces columns width cs k more)

quiet_then : (xs : List GlassCall) (k : ℕ) → Quiet xs → Quiet (xs ++ (place k ∷ []))
quiet_then [] k q = tt
quiet_then (place j ∷ ks) k q = quiet_then ks k q
quiet_then (pen p ∷ ks) k q = quiet_then ks k q
quiet_then (text cs ∷ ks) k q = quiet_then ks k q
quiet_then (clear ∷ ks) k q = quiet_then ks k q
quiet_then (reshape w ∷ ks) k q = absurd q

quiet_drawing : (columns : ℕ → Columns) (label : List ℕ) (d : Draft) (width : ℕ) → Quiet (drawing columns label d width)
quiet_drawing columns label d width = quiet_then (pieces columns width (text_start label) [] (drop d.offset d.line.text)) _ (quiet_pieces columns width (drop d.offset d.line.text) (text_start label) [])

quiet_by : (a : DisplayAction) (o : Operation) (ks : List GlassCall) → Quiet ks → Quiet (calls_by a o ks)
quiet_by action.Letter (operation.Edit (Insert c)) ks q = tt
quiet_by action.Redraw o ks q = q
quiet_by _ o ks q = tt

pub width_is : (columns : ℕ → Columns) (width : ℕ) (x : Request) (s : Session) (r : Row) → width_of (apply_all columns (glass_calls columns width x s) r) ≡ width_after x (width_of r)
width_is columns width draw s r = keeps_width columns (drawn columns width s) r (quiet_drawing columns s.label (draft_in_hand s) width)
width_is columns width (key event) s r =
    let t = after columns width (key event) s in
    let o = operation_of event in
    let a = action_of columns width o s in
    keeps_width columns (calls_by a o (drawn columns width t)) r (quiet_by a o (drawn columns width t) (quiet_drawing columns t.label (draft_in_hand t) width))
width_is columns width (paste bytes) s r =
    let t = after columns width (paste bytes) s in
    keeps_width columns (drawn columns width t) r (quiet_drawing columns t.label (draft_in_hand t) width)
width_is columns width (resize w) s r =
    let t = after columns width (resize w) s in
    keeps_width columns (drawn columns width t) (apply columns (reshape w) r) (quiet_drawing columns t.label (draft_in_hand t) width) ∙ length-replicate w blank_cell
