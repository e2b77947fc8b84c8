-- What one more record makes of a recorder.
use Rattle.std.proofs.Common.{◌≡◌, ℕ, ◌+◌, ◌*◌, ◌<◌, ◌≤◌, Bool, true, false, not, ◌||◌, List, [], ◌∷◌, ◌++◌, length, take, drop, Some, Ok, sym, refl, ap, ◌∙◌, subst, arith}
use Rattle.std.proofs.lemmas.Bool.{false≢true}
use Rattle.std.proofs.lemmas.List.{length-take}
use Rattle.font.specs.declared.Columns.{Columns}
use Rattle.glass.specs.Row.{width_of}
use Rattle.glass.specs.Calls.{GlassCall, place, pen, text, clear, reshape, cost, outside, no_scalar, refused, Obeys}
use Rattle.glass.specs.Ties.{StaysTied}
use Rattle.glass.proofs.Refusals.{not_refused}
use Rattle.recorder.specs.declared.recorder.Recorder.{Recorder}
use Rattle.recorder.specs.Log.{Written, RecordOf, log_row, log_width, width_then, record_of, written_at, taken, calls_in}
use Rattle.recorder.specs.Recorded.{Grown, log, shown_by, spare_of, tied_of}
use Rattle.recorder.proofs.Encodes.{encodes_short}
use Rattle.recorder.proofs.Writes.{take_written, drop_written, length_written}
use Rattle.recorder.proofs.Logs.{log_row_width, calls_push, written_push, row_push, width_push}

none_of : (a b : Bool) → not (a || b) ≡ true → (a ≡ false) × (b ≡ false)
none_of false false h = (refl, refl)
none_of false true h = absurd (false≢true h)
none_of true b h = absurd (false≢true h)

-- a record takes at most 8 bytes for each unit of its call's cost
record_short : (line : ℕ) (k : GlassCall) → length (record_of line k) ≤ 8 * cost k
record_short line (place k) = omega arith
record_short line (pen p) = omega arith
record_short line (text cs) = omega (arith, encodes_short cs)
record_short line clear = omega arith
record_short line (reshape w) = omega arith

-- no call is free
costs : (k : GlassCall) → 1 ≤ cost k
costs (place k) = omega arith
costs (pen p) = omega arith
costs (text cs) = omega arith
costs clear = omega arith
costs (reshape w) = omega arith

-- what a recorder keeps true, with one more record in its bytes
pub record Entered {F : Type 0} (s : Recorder F) (width : ℕ) (more : List ℕ) (used : ℕ) (bytes : List ℕ) : Type 0 where
  pub long : length bytes ≡ length s.bytes.now
  pub longer : take used bytes ≡ log s ++ more
  pub rest_kept : drop used bytes ≡ drop used s.bytes.now
  pub reads : Written s.line (take used bytes)
  pub width_is : log_width (take used bytes) ≡ width

module _ {F : Type 0} (s : Recorder F) where
  begun : 0 < s.used → 0 < length (log s)
  begun p = simp length-take (omega arith)

  taken_here : (k : GlassCall) → taken k s.width ≡ true → taken k (log_width (log s)) ≡ true
  taken_here k t = ap (taken k) s.shape.0 ∙ t

  pub entered : (width : ℕ) (more : List ℕ) (used : ℕ) (bytes : List ℕ) → RecordOf s.line s.width width more → 0 < s.used → used ≡ s.used + length more → used ≤ s.limit → bytes ≡ written_at s.used more s.bytes.now
      → Entered s width more used bytes
  entered width more used bytes k p u l e =
      let n : s.used ≤ length s.bytes.now = omega arith in
      let t : take used bytes ≡ log s ++ more = ap (λ m. take m bytes) u ∙ ap (take (s.used + length more)) e ∙ take_written s.bytes.now more s.used n in
      let r : take used bytes ≡ log s ++ record_of s.line k.call = t ∙ ap (λ x. log s ++ x) k.spelled in
      record {
        long = ap length e ∙ length_written s.bytes.now more s.used (omega arith);
        longer = t;
        rest_kept = ap (λ m. drop m bytes) u ∙ ap (drop (s.used + length more)) e ∙ drop_written s.bytes.now more s.used n ∙ ap (λ m. drop m s.bytes.now) (sym u);
        reads = subst (Written s.line) (sym r) (written_push (log s) s.line k.call (begun p) s.reads (taken_here k.call k.whole));
        width_is = ap log_width r ∙ width_push (log s) s.line k.call (begun p) s.reads (taken_here k.call k.whole) ∙ ap (width_then k.call) s.shape.0 ∙ k.wide;
      }

  module _ (columns : ℕ → Columns) where
    pub width_is : width_of (shown_by columns s) ≡ s.width
    width_is = log_row_width columns (log s) ∙ s.shape.0

    -- a call that was paid for and entered is answered as it should be, and its record is all that is new
    pub accepted : (width : ℕ) (more : List ℕ) (h : Recorder F) (k : RecordOf s.line s.width width more) → cost k.call ≤ spare_of s → Grown more s h
        → record { obeys : Obeys columns (shown_by columns) spare_of k.call s (Ok tt) h; keeps : StaysTied (k.call ∷ []) (tied_of s) (tied_of h) }
    accepted width more h k b g =
        let c = costs k.call in
        let p : 0 < s.used = s.begun (omega arith) in
        let e : log h ≡ log s ++ record_of s.line k.call = g.longer ∙ ap (λ x. log s ++ x) k.spelled in
        let t = taken_here k.call k.whole in
        let o = none_of (outside k.call s.width) (no_scalar k.call) k.whole in
        let n = record_short s.line k.call in
        let m = ap length k.spelled in
        let u = g.uses_more in
        let l = g.same_limit in
        record {
          obeys = (
            ap (λ w. refused k.call w (spare_of s)) width_is ∙ not_refused k.call s.width (spare_of s) o.0 b o.1,
            ap (log_row columns) e ∙ row_push columns (log s) s.line k.call (begun p) s.reads t,
            omega arith,
          );
          keeps = record {
            same_names = ap (λ n. n ∷ []) g.same_buffer;
            same_line = g.same_line;
            uses_more = omega arith;
            rest_kept = g.rest_kept;
            on_record = ap (λ (bs : List ℕ). Some (calls_in bs)) e ∙ ap Some (calls_push (log s) s.line k.call (begun p) s.reads t);
          };
        }
