-- No call of a drawing is refused.
use Rattle.std.proofs.Common.{◌≡◌, ℕ, ◌+◌, ◌-◌, ◌≤◌, min, true, ltb, leb, List, [], ◌∷◌, ◌++◌, length, take, drop, refl, arith}
use lib.Utf8.{scalar, scalars}
use Rattle.std.proofs.lemmas.Bool.{and_parts, cond_both}
use Rattle.std.proofs.lemmas.Bool.Decides.{nat_tests}
use Rattle.font.specs.declared.Columns.{Columns}
use Rattle.font.specs.declared.Columns.TheVariants.{NoWidth, Zero, One, Two}
use Rattle.font.specs.Labels.{label as spelling}
use Rattle.font.proofs.Labels.{cut_label_scalars}
use Rattle.glass.specs.Row.{width_of}
use Rattle.glass.specs.Calls.{GlassCall, place, clear}
use Rattle.glass.proofs.Allowed.{AllSound, allowed}
use Rattle.draft.specs.Draft.{Draft}
use Rattle.draft.proofs.Scalars.{scalars_append, scalars_drop}
use Rattle.drawing.specs.Ascii.{printable}
use Rattle.drawing.specs.Drawing.{sent, ended, joined, spelled, piece, pieces, text_start, cursor_column, drawing, DrawingIsAllowed}
use Rattle.drawing.proofs.Cost.{drawing_costs}

printable_scalars : (cs : List ℕ) → printable cs ≡ true → scalars cs ≡ true
printable_scalars [] p = refl
printable_scalars (c ∷ cs) p = let rest = printable_scalars cs in grind (arith, nat_tests)

sound_append : (w : ℕ) (xs ys : List GlassCall) → AllSound w xs → AllSound w ys → AllSound w (xs ++ ys)
sound_append w [] ys p q = q
sound_append w (x ∷ xs) ys p q = (p.0, sound_append w xs ys p.1 q)

sound_sent : (w : ℕ) (run : List ℕ) (ks : List GlassCall) → scalars run ≡ true → AllSound w ks → AllSound w (sent run ks)
sound_sent w [] ks p q = q
sound_sent w (c ∷ cs) ks p q = (p, q)

module _ (columns : ℕ → Columns) (w : ℕ) where
  sound_ended : (col : ℕ) (run : List ℕ) → scalars run ≡ true → AllSound w (ended w col run)
  sound_ended col run p = sound_sent w run _ p (cond_both (ltb col w) (clear ∷ []) [] (AllSound w) (λ _. (tt, tt)) (λ _. tt))

  abbrev Sounds : List ℕ → Type 0
  Sounds cs = (col : ℕ) (run : List ℕ) → scalars run ≡ true → AllSound w (pieces columns w col run cs)

  sound_joined : (cs : List ℕ) → Sounds cs → (c n col : ℕ) (run : List ℕ) → scalar c ≡ true → scalars run ≡ true → AllSound w (joined w col run n (λ k. pieces columns w k (run ++ (c ∷ [])) cs))
  sound_joined cs on c n col run q p =
      cond_both (ltb w (col + n)) (ended w col run) (pieces columns w (col + n) (run ++ (c ∷ [])) cs) (AllSound w) (λ _. sound_ended col run p)
      (λ _. on (col + n) (run ++ (c ∷ [])) (scalars_append run (c ∷ []) p (rw q)))

  sound_piece : (cs : List ℕ) → Sounds cs → (v : Columns) (c col : ℕ) (run : List ℕ) → scalar c ≡ true → scalars run ≡ true → AllSound w (piece v w col run c (λ k more. pieces columns w k more cs))
  sound_piece cs on NoWidth c col run q p =
      let shown = take (w - col) (spelling c) in
      let later = cond_both (leb w (col + length shown)) [] (pieces columns w (col + length shown) [] cs) (AllSound w) (λ _. tt) (λ _. on (col + length shown) [] refl) in
      sound_sent w run (spelled w col shown (λ k. pieces columns w k [] cs)) p (tt, (cut_label_scalars (w - col) c, (tt, later)))
  sound_piece cs on Zero c col run q p = sound_joined cs on c 0 col run q p
  sound_piece cs on One c col run q p = sound_joined cs on c 1 col run q p
  sound_piece cs on Two c col run q p = sound_joined cs on c 2 col run q p

  sound_pieces : (cs : List ℕ) → scalars cs ≡ true → Sounds cs
  sound_pieces [] q col run p = sound_ended col run p
  sound_pieces (c ∷ cs) q col run p = let b = and_parts (scalar c) (scalars cs) q in sound_piece cs (sound_pieces cs b.1) (columns c) c col run b.0 p

  sound_drawing : (label : List ℕ) (d : Draft) → printable label ≡ true → scalars d.line.text ≡ true → 1 ≤ w → AllSound w (drawing columns label d w)
  sound_drawing label d p q h =
      let text_sound = sound_pieces (drop d.offset d.line.text) (scalars_drop d.offset d.line.text q) (text_start label) [] refl in
      let last_sound : AllSound w (place (min (cursor_column columns label d) (w - 1)) ∷ []) = (omega arith, tt) in
      let title_sound = scalars_append label (0x20 ∷ []) (printable_scalars label p) refl in
      (h, (tt, (title_sound, (tt, (refl, sound_append w (pieces columns w (text_start label) [] (drop d.offset d.line.text)) _ text_sound last_sound)))))

pub drawing_is_allowed : DrawingIsAllowed
drawing_is_allowed columns label d r spare p short h narrow few q enough =
    let c = drawing_costs columns label d (width_of r) short narrow few in
    allowed columns (drawing columns label d (width_of r)) r spare (sound_drawing columns (width_of r) label d p q h) (omega arith)
