-- Lines are written one after another.
use Rattle.std.proofs.Common.{◌≡◌, ℕ, suc, ◌+◌, ◌-◌, ◌*◌, ◌<◌, ◌≤◌, Bool, true, false, cond, eqb, leb, List, [], ◌∷◌, ◌++◌, map, length, get_or, take, drop, set, Some, None, Ok, Err, Option, sym, refl, ap, ◌∙◌, ⊎_elim, append_assoc, arith}
use borrow.Rule.Slice.PartMut.{put_mid}
use denote.Ref.{Bor}
use lib.Pointwise.{pointwise}
use Rattle.std.specs.contracts.prelude.U8PartialEq as byte
use Rattle.std.specs.List.{AllByRecursion, last_or}
use Rattle.std.specs.Option.{option_eq}
use Rattle.std.specs.Str.{bytes_eq}
use Rattle.std.proofs.ByRecursion.{kept_by_passes}
use Rattle.std.proofs.lemmas.List.{length-append, length_push, take_at, drop_at, drop-drop, drop_more, set_at, take_all, length-take-le, flat_map_more, length-drop}
use Rattle.std.proofs.lemmas.Bool.{cases_lt, and_parts, leb-true, or_from, or_left, or_right, cond-true, cond-false, le-leb, lt-leb}
use Rattle.std.proofs.lemmas.Bool.Decides.{same_from_decides, Decides-eqb}
use Rattle.std.proofs.lemmas.Slice.Eq.{slice_eq-Decides, bytes_eq-Decides}
use Rattle.text.specs.declared.refusal.Refusal.TheVariants.{BufferTooShort}
use Rattle.text.specs.Utf8.{overwritten}
use Rattle.history.specs.Limits.{longest_history, longest_line, most_kept}
use Rattle.history.specs.Lines.{newline, lines}
use Rattle.history.specs.Readable.{loadable, readable, readable_lines, last_of}
use Rattle.history.specs.Spelling.{spell}
use Rattle.history.specs.Writing.{ended, ended_lines, written, is_last, nothing_to_add, write_answer}

-- A readable line has at most 1,024 bytes.
readable_short : (line : List ℕ) → readable line ≡ true → length line ≤ longest_line
unfolding readable
readable_short line good = leb-true _ _ (and_parts _ (loadable line) good).0

pub short_ended : (ls : List (List ℕ)) → AllByRecursion (λ l. readable l ≡ true) ls → length (ended_lines ls) ≤ (longest_line + 1) * length ls
short_ended [] h = omega arith
short_ended (l ∷ ls) (good, h) =
    omega (arith, length-append (ended l) (ended_lines ls), length_push l newline, readable_short l good, short_ended ls h)

pub ended_lines_short : (bytes : List ℕ) → length (ended_lines (readable_lines bytes)) ≤ (longest_line + 1) * length (readable_lines bytes)
unfolding readable_lines
ended_lines_short bytes = short_ended (readable_lines bytes) (kept_by_passes readable (lines bytes))

pub ended_more : (line : List ℕ) (all others : List (List ℕ)) → all ≡ line ∷ others → length (ended_lines all) ≡ length line + 1 + length (ended_lines others)
ended_more line all others e =
    ap (λ l. length (ended_lines l)) e ∙ length-append (ended line) (ended_lines others) ∙ ap (λ n. n + length (ended_lines others)) (length_push line newline)

-- The last line is the last of the last ones.
last_of_last : (n : ℕ) (line : List ℕ) (ls : List (List ℕ)) → 0 < n → is_last line (last_of n ls) ≡ is_last line ls
last_of_last n line [] some = let e : 0 - n ≡ 0 = omega arith in rw e
last_of_last n line (l ∷ []) some = let e : 1 - n ≡ 0 = omega arith in rw e
last_of_last n line (l ∷ m ∷ ls) some =
    ⊎_elim
    (λ (h : n < suc (suc (length ls))).
    let e : suc (suc (length ls)) - n ≡ suc (suc (length ls) - n) = omega arith in
    ap (λ k. is_last line (drop k (l ∷ m ∷ ls))) e ∙ last_of_last n line (m ∷ ls) some)
    (λ (h : suc (suc (length ls)) ≤ n). let e : suc (suc (length ls)) - n ≡ 0 = omega arith in ap (λ k. is_last line (drop k (l ∷ m ∷ ls))) e)
    (cases_lt n (suc (suc (length ls))))

-- Where `last` of the lines is compared with a line.
same_bytes : (xs ys : List ℕ) → pointwise byte.TheImpl.ghosts.eq xs ys ≡ bytes_eq ys xs
same_bytes xs ys =
    let other = bytes_eq-Decides ys xs in
    same_from_decides _ _ (slice_eq-Decides Decides-eqb xs ys _ refl) (λ t. sym (other.0 t), λ e. other.1 (sym e))

abbrev pub same_line : Option (Bor (List ℕ)) → Option (Bor (List ℕ)) → Bool
same_line = option_eq (λ a b. pointwise byte.TheImpl.ghosts.eq a.now b.now)

last_after : (line x : Bor (List ℕ)) (xs : List (Bor (List ℕ))) → same_line (last_or (Some x) xs) (Some line) ≡ is_last line.now (map (λ l. l.now) (x ∷ xs))
last_after line x [] = same_bytes x.now line.now
last_after line x (y ∷ ys) = last_after line y ys

pub last_found : (line : Bor (List ℕ)) (xs : List (Bor (List ℕ))) → same_line (last_or None xs) (Some line) ≡ is_last line.now (map (λ l. l.now) xs)
last_found line [] = refl
last_found line (x ∷ xs) = last_after line x xs

-- The first `at` bytes of `out` are the lines before `rest`, and the others are as they were.
pub record PutSoFar (lines rest old out : List ℕ) (at : ℕ) : Type 0 where
  pub front : take at out ++ ended_lines (readable_lines rest) ≡ ended_lines (readable_lines lines)
  pub back : drop at out ≡ drop at old
  pub size : length out ≡ length old
  pub counted : at + length (ended_lines (readable_lines rest)) ≡ length (ended_lines (readable_lines lines))

-- a piece in the place of others
module _ (out piece : List ℕ) (at : ℕ) (fits : at + length piece ≤ length out) where
  abbrev with_piece : List ℕ
  with_piece = take at out ++ (piece ++ drop (at + length piece) out)

  long : length (take at out ++ piece) ≡ at + length piece
  long = length-append (take at out) piece ∙ ap (λ n. n + length piece) (length-take-le at out (omega arith))

  pub piece_front : take (at + length piece) with_piece ≡ take at out ++ piece
  piece_front = ap (take (at + length piece)) (sym (append_assoc (take at out) piece _)) ∙ take_at (take at out ++ piece) _ _ long

  pub piece_back : drop (at + length piece) with_piece ≡ drop (at + length piece) out
  piece_back = ap (drop (at + length piece)) (sym (append_assoc (take at out) piece _)) ∙ drop_at (take at out ++ piece) _ _ long

  pub piece_size : length with_piece ≡ length out
  piece_size =
      omega (arith, length-append (take at out) (piece ++ drop (at + length piece) out), length-append piece (drop (at + length piece) out), length-take-le at out (omega arith), length-drop (at + length piece) out)

pub put_more : (lines rest line after old out next : List ℕ) (at end : ℕ) → PutSoFar lines rest old out at → readable_lines rest ≡ line ∷ readable_lines after → length (ended_lines (readable_lines lines)) ≤ length old
    → end ≡ at + length (ended line) → next ≡ take at out ++ (ended line ++ drop (at + length (ended line)) out) → PutSoFar lines after old next end
put_more lines rest line after old out next at end sofar leads room e f =
    let piece = ended line in
    let step = ended_more line (readable_lines rest) (readable_lines after) leads in
    let size = length_push line newline in
    let fits : at + length piece ≤ length out = omega (arith, sofar.size, sofar.counted) in
    rw (e, f) (record {
      front =
          ap (λ l. l ++ ended_lines (readable_lines after)) (piece_front out piece at fits)
          ∙ append_assoc (take at out) piece (ended_lines (readable_lines after))
          ∙ ap (λ l. take at out ++ ended_lines l) (sym leads) ∙ sofar.front;
      back = piece_back out piece at fits ∙ sym (drop-drop (length piece) at out) ∙ ap (drop (length piece)) sofar.back ∙ drop-drop (length piece) at old;
      size = piece_size out piece at fits ∙ sofar.size;
      counted = omega (arith, sofar.counted);
    })

-- a line that was copied to a place, and then its 0A
pub line_put : (out line part : List ℕ) (at : ℕ) → part ≡ line → at + length line + 1 ≤ length out → set (put_mid at (at + length line - at) out part) (at + length line) newline ≡ take at out ++ (ended line ++ drop (at + length (ended line)) out)
line_put out line part at e fits =
    let count : at + length line - at ≡ length line = omega arith in
    let past : at + length line + 1 ≡ at + length (ended line) = omega (arith, length_push line newline) in
    let rest = drop (at + length (ended line)) out in
    let tail : drop (length line) (drop at out) ≡ get_or out (at + length line) 0 ∷ rest = drop-drop (length line) at out ∙ drop_more out (at + length line) 0 (omega arith) ∙ ap (λ n. get_or out (at + length line) 0 ∷ drop n out) past in
    let whole : put_mid at (at + length line - at) out part ≡ (take at out ++ line) ++ get_or out (at + length line) 0 ∷ rest = (λ i. take at out ++ (e i ++ drop (count i) (drop at out))) ∙ ap (λ l. take at out ++ (line ++ l)) tail ∙ sym (append_assoc (take at out) line _) in
    let size : length (take at out ++ line) ≡ at + length line = length-append (take at out) line ∙ ap (λ n. n + length line) (length-take-le at out (omega arith)) in
    ap (λ l. set l (at + length line) newline) whole ∙ set_at (take at out ++ line) _ rest newline (at + length line) size
    ∙ append_assoc (take at out) line (newline ∷ rest) ∙ ap (λ l. take at out ++ l) (sym (append_assoc line (newline ∷ []) rest))

pub few_kept : (xs : List (List ℕ)) → length (last_of most_kept xs) ≤ most_kept
few_kept xs = omega (arith, length-drop (length xs - most_kept) xs)

module _ (text history kept : List ℕ) (last : readable_lines kept ≡ last_of most_kept (readable_lines history)) where
  pub written_is : written text history ≡ ended_lines (readable_lines kept) ++ ended (spell text)
  written_is = ap (λ ls. ended_lines (ls ++ spell text ∷ [])) (sym last) ∙ sym (flat_map_more ended [] (readable_lines kept) (spell text))

  pub written_size : length (written text history) ≡ length (ended_lines (readable_lines kept)) + length (spell text) + 1
  written_size = ap length written_is ∙ length-append (ended_lines (readable_lines kept)) (ended (spell text)) ∙ omega (arith, length_push (spell text) newline)

  -- the lines that are kept, and then the new one
  pub written_over : (old out next line : List ℕ) (at : ℕ) → length (written text history) ≤ length old → line ≡ spell text → at ≡ length (ended_lines (readable_lines kept)) → out ≡ overwritten old (ended_lines (readable_lines kept))
      → next ≡ take at out ++ (ended line ++ drop (at + length (ended line)) out) → next ≡ overwritten old (written text history)
  written_over old out next line at room e all over f =
      let front = ended_lines (readable_lines kept) in
      let piece = ended (spell text) in
      let sizes = ap length written_is ∙ length-append front piece in
      let start : out ≡ front ++ drop (length front) old = over ∙ ap (λ l. l ++ drop (length front) old) (take_all (length old) front (omega arith)) in
      let left : take at out ≡ front = (λ i. take (all i) (start i)) ∙ take_at front (drop (length front) old) (length front) refl in
      let right : drop (at + length piece) out ≡ drop (length (written text history)) old =
      (λ i. drop (all i + length piece) (start i)) ∙ sym (drop-drop (length piece) (length front) (front ++ drop (length front) old))
      ∙ ap (drop (length piece)) (drop_at front (drop (length front) old) (length front) refl) ∙ drop-drop (length piece) (length front) old ∙ ap (λ n. drop n old) (sym sizes) in
      f ∙ ap (λ l. take at out ++ (ended l ++ drop (at + length (ended l)) out)) e
      ∙ (λ i. left i ++ (piece ++ right i)) ∙ sym (append_assoc front piece (drop (length (written text history)) old))
      ∙ ap (λ l. l ++ drop (length (written text history)) old) (sym written_is ∙ sym (take_all (length old) (written text history) room))

-- whether there is something to add is told by the lines that are kept
pub something_to_add : (text slice line history kept : List ℕ) → readable_lines kept ≡ last_of most_kept (readable_lines history) → slice ≡ text → false ≡ eqb (length slice) 0 → line ≡ spell text → false ≡ is_last line (readable_lines kept) → nothing_to_add text history ≡ false
something_to_add text slice line history kept last e some f other =
    or_from _ _ (ap (λ l. eqb (length l) 0) (sym e) ∙ sym some)
    (sym (last_of_last most_kept (spell text) (readable_lines history) (omega arith)) ∙ ap (is_last (spell text)) (sym last) ∙ ap (λ l. is_last l (readable_lines kept)) (sym f) ∙ sym other)

pub nothing_if_empty : (text slice history : List ℕ) → slice ≡ text → true ≡ eqb (length slice) 0 → nothing_to_add text history ≡ true
nothing_if_empty text slice history e none = or_left _ _ (ap (λ l. eqb (length l) 0) (sym e) ∙ sym none)

pub nothing_if_last : (text line history kept : List ℕ) → readable_lines kept ≡ last_of most_kept (readable_lines history) → line ≡ spell text → true ≡ is_last line (readable_lines kept) → nothing_to_add text history ≡ true
nothing_if_last text line history kept last f same =
    or_right _ _ (sym (last_of_last most_kept (spell text) (readable_lines history) (omega arith)) ∙ ap (is_last (spell text)) (sym last) ∙ ap (λ l. is_last l (readable_lines kept)) (sym f) ∙ sym same)

pub answer_if_nothing : (text history : List ℕ) (room : ℕ) → length history ≤ longest_history → nothing_to_add text history ≡ true → Ok None ≡ write_answer text history room
answer_if_nothing text history room short none =
    sym (cond-true (leb (length history) longest_history) _ _ (le-leb _ _ short) ∙ cond-true (nothing_to_add text history) _ _ none)

module _ (text history : List ℕ) (room : ℕ) (short : length history ≤ longest_history) (some : nothing_to_add text history ≡ false) where
  asked : write_answer text history room ≡ cond (leb (length (written text history)) room) (Ok (Some (length (written text history)))) (Err BufferTooShort)
  asked = cond-true (leb (length history) longest_history) _ _ (le-leb _ _ short) ∙ cond-false (nothing_to_add text history) _ _ some

  pub answer_if_short : room < length (written text history) → Err BufferTooShort ≡ write_answer text history room
  answer_if_short h = sym (asked ∙ cond-false (leb (length (written text history)) room) _ _ (lt-leb _ _ h))

  pub answer_if_written : (count : ℕ) → count ≡ length (written text history) → length (written text history) ≤ room → Ok (Some count) ≡ write_answer text history room
  answer_if_written count e h = ap (λ n. Ok (Some n)) e ∙ sym (asked ∙ cond-true (leb (length (written text history)) room) _ _ (le-leb _ _ h))
