-- A log with one more record reads as its calls and that call.
use Rattle.std.proofs.Common.{◌≡◌, ℕ, ◌+◌, ◌*◌, ◌/◌, ◌%◌, ◌<◌, Bool, true, false, not, ◌||◌, List, [], ◌∷◌, ◌++◌, length, Some, None, Option, sym, refl, ap, ◌∙◌, ⊎_elim, append_assoc, arith}
use lib.Utf8.{scalars}
use Rattle.std.specs.List.{flat_map}
use Rattle.std.proofs.lemmas.Str.{chars-encodes}
use Rattle.std.proofs.lemmas.Bool.{false≢true, and_parts, and_from, cases_Bool}
use Rattle.std.proofs.lemmas.List.{flat_map_more, append-nil, length-replicate}
use Rattle.text.specs.declared.refusal.Refusal.{Refusal}
use Rattle.font.specs.declared.Columns.{Columns}
use Rattle.glass.specs.declared.PenChange.{PenChange}
use Rattle.glass.specs.declared.PenChange.TheVariants.{Plain, Prompt, ReverseOn, ReverseOff}
use Rattle.glass.specs.Row.{Row, Showable, blank_row, blank_cell, width_of}
use Rattle.glass.specs.Calls.{GlassCall, place, pen, text, clear, reshape, apply, apply_all, outside}
use Rattle.glass.proofs.Front.{text_width, cleared_width}
use Rattle.glass.proofs.Showable.{showable_blank, showable_after}
use Rattle.recorder.specs.Log.{pen_code, pen_in, records_after, records, call_in, calls_in, log_row, width_then, widths, log_width, payload, measured, record_of, log_of, taken, all_taken, Written, first_calls, opening}

-- between records
after_none : (begun bs : List ℕ) → records_after 0 begun bs ≡ begun ∷ records bs
after_none begun [] = refl
after_none begun (h ∷ []) = refl
after_none begun (h ∷ l ∷ bs) = refl

-- as many bytes as were announced
records_exact : (begun p ds : List ℕ) → records_after (length p) begun (p ++ ds) ≡ (begun ++ p) ∷ records ds
records_exact begun [] ds = after_none begun ds ∙ ap (λ l. l ∷ records ds) (sym (append-nil begun))
records_exact begun (b ∷ bs) ds = records_exact (begun ++ (b ∷ [])) bs ds ∙ ap (λ l. l ∷ records ds) (append_assoc begun (b ∷ []) bs)

digits : (n : ℕ) → (n / 256) * 256 + n % 256 ≡ n
digits n = omega arith

records_measured : (p ds : List ℕ) → records (measured p ++ ds) ≡ p ∷ records ds
records_measured p ds = ap (λ n. records_after n [] (p ++ ds)) (digits (length p)) ∙ records_exact [] p ds

pen_back : (p : PenChange) → pen_in (pen_code p) ≡ pen p ∷ []
pen_back Plain = refl
pen_back Prompt = refl
pen_back ReverseOn = refl
pen_back ReverseOff = refl

taken_scalars : (b : Bool) → not (false || not b) ≡ true → b ≡ true
taken_scalars true h = refl
taken_scalars false h = absurd (false≢true h)

call_back : (line : ℕ) (k : GlassCall) (w : ℕ) → taken k w ≡ true → call_in (payload line k) ≡ k ∷ []
call_back line (place k) w h = ap (λ n. place n ∷ []) (digits k)
call_back line (pen p) w h = pen_back p
call_back line (text cs) w h = ap (λ x. text x ∷ []) (chars-encodes cs (taken_scalars (scalars cs) h))
call_back line clear w h = refl
call_back line (reshape v) w h = ap (λ n. reshape n ∷ []) (digits v)

-- what was written is read
calls_back : (line : ℕ) (ks : List GlassCall) (w : ℕ) → all_taken ks w ≡ true → flat_map call_in (records (flat_map (record_of line) ks)) ≡ ks
calls_back line [] w e = refl
calls_back line (k ∷ ks) w e =
    let h = and_parts (taken k w) (all_taken ks (width_then k w)) e in
    ap (flat_map call_in) (records_measured (payload line k) (flat_map (record_of line) ks))
    ∙ ap (λ c. c ++ flat_map call_in (records (flat_map (record_of line) ks))) (call_back line k w h.0)
    ∙ ap (λ cs. k ∷ cs) (calls_back line ks (width_then k w) h.1)

taken_push : (ks : List GlassCall) (k : GlassCall) (w : ℕ) → all_taken ks w ≡ true → taken k (widths ks w) ≡ true → all_taken (ks ++ (k ∷ [])) w ≡ true
taken_push [] k w e h = and_from (taken k w) true h refl
taken_push (j ∷ ks) k w e h =
    let p = and_parts (taken j w) (all_taken ks (width_then j w)) e in
    and_from (taken j w) (all_taken (ks ++ (k ∷ [])) (width_then j w)) p.0 (taken_push ks k (width_then j w) p.1 h)

pub calls_of_log : (line : ℕ) (ks : List GlassCall) (w : ℕ) → all_taken ks w ≡ true → calls_in (log_of line ks) ≡ ks
calls_of_log line [] w h = refl
calls_of_log line (k ∷ ks) w h = calls_back line (k ∷ ks) w h

log_push : (line : ℕ) (ks : List GlassCall) (bs : List ℕ) (k : GlassCall) → 0 < length bs → log_of line ks ≡ bs → bs ++ record_of line k ≡ log_of line (ks ++ (k ∷ []))
log_push line [] bs k l e = absurd (omega (arith, ap length e))
log_push line (j ∷ ks) bs k l e = ap (λ x. x ++ record_of line k) (sym e) ∙ flat_map_more (record_of line) (1 ∷ []) (j ∷ ks) k

-- a log with one more record reads as its calls and that call
pub calls_push : (bs : List ℕ) (line : ℕ) (k : GlassCall) → 0 < length bs → Written line bs → taken k (log_width bs) ≡ true → calls_in (bs ++ record_of line k) ≡ calls_in bs ++ (k ∷ [])
calls_push bs line k l w h = ap calls_in (log_push line (calls_in bs) bs k l w.0) ∙ calls_of_log line (calls_in bs ++ (k ∷ [])) 1 (taken_push (calls_in bs) k 1 w.1 h)

pub written_push : (bs : List ℕ) (line : ℕ) (k : GlassCall) → 0 < length bs → Written line bs → taken k (log_width bs) ≡ true → Written line (bs ++ record_of line k)
written_push bs line k l w h =
    let e = calls_push bs line k l w h in
    (ap (log_of line) e ∙ sym (log_push line (calls_in bs) bs k l w.0), ap (λ ks. all_taken ks 1) e ∙ taken_push (calls_in bs) k 1 w.1 h)

pub apply_push : (columns : ℕ → Columns) (ks : List GlassCall) (k : GlassCall) (r : Row) → apply_all columns (ks ++ (k ∷ [])) r ≡ apply columns k (apply_all columns ks r)
apply_push columns [] k r = refl
apply_push columns (j ∷ ks) k r = apply_push columns ks k (apply columns j r)

widths_push : (ks : List GlassCall) (k : GlassCall) (w : ℕ) → widths (ks ++ (k ∷ [])) w ≡ width_then k (widths ks w)
widths_push [] k w = refl
widths_push (j ∷ ks) k w = widths_push ks k (width_then j w)

pub row_push : (columns : ℕ → Columns) (bs : List ℕ) (line : ℕ) (k : GlassCall) → 0 < length bs → Written line bs → taken k (log_width bs) ≡ true → log_row columns (bs ++ record_of line k) ≡ apply columns k (log_row columns bs)
row_push columns bs line k l w h = ap (λ ks. apply_all columns ks (blank_row 1)) (calls_push bs line k l w h) ∙ apply_push columns (calls_in bs) k (blank_row 1)

pub width_push : (bs : List ℕ) (line : ℕ) (k : GlassCall) → 0 < length bs → Written line bs → taken k (log_width bs) ≡ true → log_width (bs ++ record_of line k) ≡ width_then k (log_width bs)
width_push bs line k l w h = ap (λ ks. widths ks 1) (calls_push bs line k l w h) ∙ widths_push (calls_in bs) k 1

-- a recorder opens with the record of its width
pub opening_read : (o : Option Refusal) (line width : ℕ) → calls_in (opening o line width) ≡ first_calls o width
opening_read None line width = ap (λ n. reshape n ∷ []) (digits width)
opening_read (Some e) line width = refl

-- only a new shape changes the width
call_width : (columns : ℕ → Columns) (k : GlassCall) (r : Row) → width_of (apply columns k r) ≡ width_then k (width_of r)
call_width columns (place k) r = refl
call_width columns (pen p) r = refl
call_width columns (text cs) r = text_width columns cs r
call_width columns clear r = cleared_width r
call_width columns (reshape w) r = length-replicate w blank_cell

calls_width : (columns : ℕ → Columns) (ks : List GlassCall) (r : Row) → width_of (apply_all columns ks r) ≡ widths ks (width_of r)
calls_width columns [] r = refl
calls_width columns (k ∷ ks) r = calls_width columns ks (apply columns k r) ∙ ap (widths ks) (call_width columns k r)

pub log_row_width : (columns : ℕ → Columns) (bs : List ℕ) → width_of (log_row columns bs) ≡ log_width bs
log_row_width columns bs = calls_width columns (calls_in bs) (blank_row 1)

-- what the row takes keeps it one that a glass can show
taken_inside : (k : GlassCall) (w : ℕ) → taken k w ≡ true → outside k w ≡ false
taken_inside k w h = ⊎_elim (λ (t : outside k w ≡ true). absurd (false≢true (rw t at h))) (λ (t : outside k w ≡ false). t) (cases_Bool (outside k w))

calls_showable : (columns : ℕ → Columns) (ks : List GlassCall) (r : Row) → all_taken ks (width_of r) ≡ true → Showable r → Showable (apply_all columns ks r)
calls_showable columns [] r e s = s
calls_showable columns (k ∷ ks) r e s =
    let h = and_parts (taken k (width_of r)) (all_taken ks (width_then k (width_of r))) e in
    calls_showable columns ks (apply columns k r) (ap (all_taken ks) (call_width columns k r) ∙ h.1) (showable_after columns k r (taken_inside k (width_of r) h.0) s)

pub log_showable : (columns : ℕ → Columns) (line : ℕ) (bs : List ℕ) → Written line bs → Showable (log_row columns bs)
log_showable columns line bs w = calls_showable columns (calls_in bs) (blank_row 1) w.1 showable_blank
