use Rattle.std.proofs.Common.{◌<◌, [], ◌∷◌, refl, ap, sym, ◌∙◌, subst, arith, ◌≢◌, ℕ}
use Rattle.std.proofs.Output.{has_written_append, has_written_of_eq}
use Rattle.std.proofs.lemmas.List.FromFn.{map-range_with_len_more}
use Rattle.std.specs.Fmt.{HasWritten}
use Rattle.cells.specs.Shows.{shows}
use Rattle.glass.specs.Row.{width_of}
use Rattle.transcript.proofs.Rows.{slot_is_shown, sign_at_cursor, sign_elsewhere}
use Rattle.transcript.specs.Showing.{sign_at}
use Rattle.transcript.proofs.showing.PensDisplay.fmt.Goals as goal
use Rattle.transcript.proofs.showing.PensDisplay.fmt.Goals.{then-column-cursor+in_ok-write_str, else-column-cursor+in_ok-write_str-2}

pub loop-column-preserved : goal.loop-column-preserved
loop-column-preserved g c = λ plain.
    let row = shows c.args.self.now.0.now in
    let k = c.loop-column.column in
    let before = c.loop-column.invariant plain in
    let inside : k < width_of row = subst (λ w. k < w) c.width-column-end.ensures.value c.loop-column-test.true in
    let now : HasWritten g.W.Write.write_str_gives c.loop-column.f (sign_at row k ∷ []) c.if-column-cursor.f = elim c.if-column-cursor.branch [
      | then-column-cursor+in_ok-write_str w ↦
          let sign = sign_at_cursor row k (w.if-column-cursor.true ∙ c.cursor.ensures.value) in
          rw w.f-is (has_written_of_eq _ _ _ _ _ (ap (λ (s : ℕ). s ∷ []) (sym sign)) (w.in_ok-write_str.ensures.writes before.plain refl))
      | else-column-cursor+in_ok-write_str-2 w ↦
          let other : k ≢ row.column = subst (λ (column : ℕ). k ≢ column) c.cursor.ensures.value w.if-column-cursor.false in
          let slot = slot_is_shown row k w.cell.result w.unwrap_or.result inside w.cell.ensures.value w.unwrap_or.ensures in
          let sign = sign_elsewhere row k w.unwrap_or.result other slot in
          rw w.f-is (has_written_of_eq _ _ _ _ _ (w.sign_of.ensures.value ∙ ap (λ (s : ℕ). s ∷ []) sign) (w.in_ok-write_str-2.ensures.writes before.plain refl))
    ] in
    has_written_of_eq _ _ _ _ _ (sym (map-range_with_len_more (sign_at row) 0 k k (omega arith))) (has_written_append _ _ _ _ _ _ before now)
