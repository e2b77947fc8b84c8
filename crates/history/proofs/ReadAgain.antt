-- Lines that were written are read again.
use Rattle.std.proofs.Common.{◌≡◌, ℕ, ◌-◌, ◌<◌, ◌≤◌, true, false, eqb, List, [], ◌∷◌, ◌++◌, map, length, get_or, take, drop, filter, sym, refl, ap, ◌∙◌, ⊎_elim, append_assoc, append-nil, arith}
use Rattle.std.specs.List.{AllByRecursion}
use Rattle.std.proofs.lemmas.List.Elements.{filter-append}
use Rattle.std.proofs.ByRecursion.{All-get_or, All-append, All-drop, all_kept_by, kept_by_passes}
use Rattle.std.proofs.lemmas.Slice.Eq.{bytes_eq-Decides}
use Rattle.std.proofs.lemmas.List.{flat_map_more, map-append, drop-append-le, length-append, length_push, get_or_append_left, get_or_push, get_or-take, length-take}
use Rattle.std.proofs.lemmas.Bool.{cases_Bool, cases_lt, cond-true, cond-false, cond_both, ne_eqb, eqb-false, or_right}
use Rattle.history.specs.Limits.{most_kept, most_remembered, longest_written}
use Rattle.history.specs.Lines.{newline, carriage_return, without_return, unless_empty, lines_after, lines, NoNewline}
use Rattle.history.specs.Readable.{loaded, readable, readable_lines, last_of}
use Rattle.history.specs.Spelling.{spell}
use Rattle.history.specs.Session.{remembered_texts}
use Rattle.history.specs.Writing.{ended, ended_lines, written, is_last, nothing_to_add}
use Rattle.history.specs.Laws.{Clean, DraftText}
use Rattle.history.proofs.Cutting.{lines_laws, no_lines}
use Rattle.history.proofs.Rewriting.{short_ended, few_kept}
use Rattle.history.proofs.GivenBack.{spelling_clean, spelling_not_empty, spelling_readable, spelling_short, gives_back}

-- A line as it comes of cutting: not empty, and without a 0A.
abbrev Proper : List ℕ → Type 0
Proper line = NoNewline line × (0 < length line)

one_if_not_empty : (line : List ℕ) → 0 < length line → unless_empty line ≡ line ∷ []
one_if_not_empty [] some = absurd (omega arith)
one_if_not_empty (b ∷ bs) some = refl

-- it is a line again when a 0A ends it, unless it ends in 0D
proper_again : (line : List ℕ) → Proper line → without_return line ≡ line → lines (ended line) ≡ line ∷ []
proper_again line (none, some) kept =
    lines_laws.ended line [] none ∙ (λ i. unless_empty (kept i) ++ no_lines [] refl i) ∙ append-nil (unless_empty line) ∙ one_if_not_empty line some

clean_proper : (line : List ℕ) → AllByRecursion Clean line → 0 < length line → Proper line
clean_proper line clean some = (λ k l e. omega (arith, (All-get_or Clean line k 0 l clean).0), some)

clean_kept : (line : List ℕ) → AllByRecursion Clean line → 0 < length line → without_return line ≡ line
clean_kept line clean some =
    cond-false _ _ _ (ne_eqb (get_or line (length line - 1) 0) carriage_return (λ e. omega (arith, (All-get_or Clean line (length line - 1) 0 (omega arith) clean).0)))

pub is_one_line : (text : List ℕ) → DraftText text → 0 < length text → lines (ended (spell text)) ≡ spell text ∷ []
is_one_line text (h, few) some =
    let there = spelling_not_empty text h some in
    proper_again (spell text) (clean_proper (spell text) (spelling_clean text h) there) (clean_kept (spell text) (spelling_clean text h) there)

-- A 0A ends what was begun before it.
lines_cut : (begun xs ys : List ℕ) → lines_after begun (xs ++ newline ∷ ys) ≡ lines_after begun (xs ++ newline ∷ []) ++ lines_after [] ys
lines_cut begun [] ys = ap (λ l. l ++ lines_after [] ys) (sym (append-nil (unless_empty (without_return begun))))
lines_cut begun (b ∷ bs) ys =
    ⊎_elim
    (λ (e : eqb b newline ≡ true). rw e (ap (λ l. unless_empty (without_return begun) ++ l) (lines_cut [] bs ys) ∙ sym (append_assoc (unless_empty (without_return begun)) (lines_after [] (bs ++ newline ∷ [])) (lines_after [] ys))))
    (λ (e : eqb b newline ≡ false). rw e (lines_cut (begun ++ b ∷ []) bs ys))
    (cases_Bool (eqb b newline))

lines_after_one : (line rest : List ℕ) → lines (ended line ++ rest) ≡ lines (ended line) ++ lines rest
unfolding lines
lines_after_one line rest = ap (lines_after []) (append_assoc line (newline ∷ []) rest) ∙ lines_cut [] line rest

lines_after_all : (ls : List (List ℕ)) (rest : List ℕ) → lines (ended_lines ls ++ rest) ≡ lines (ended_lines ls) ++ lines rest
lines_after_all [] rest = ap (λ l. l ++ lines rest) (sym (no_lines [] refl))
lines_after_all (l ∷ ls) rest =
    ap lines (append_assoc (ended l) (ended_lines ls) rest) ∙ lines_after_one l (ended_lines ls ++ rest) ∙ ap (λ m. lines (ended l) ++ m) (lines_after_all ls rest)
    ∙ sym (append_assoc (lines (ended l)) (lines (ended_lines ls)) (lines rest)) ∙ ap (λ m. m ++ lines rest) (sym (lines_after_one l (ended_lines ls)))

-- The new line is the last that is read.
new_line_last : (text history : List ℕ) → DraftText text → 0 < length text → readable_lines (written text history) ≡ readable_lines (ended_lines (last_of most_kept (readable_lines history))) ++ spell text ∷ []
unfolding readable_lines
new_line_last text history good some =
    let kept = last_of most_kept (readable_lines history) in
    let passes = spelling_readable text good in
    let one : filter readable (spell text ∷ []) ≡ spell text ∷ [] = cond-true (readable (spell text)) _ _ passes in
    ap (λ l. filter readable (lines l)) (sym (flat_map_more ended [] kept (spell text)))
    ∙ ap (filter readable) (lines_after_all kept (ended (spell text)) ∙ ap (λ l. lines (ended_lines kept) ++ l) (is_one_line text good some))
    ∙ filter-append readable (lines (ended_lines kept)) (spell text ∷ []) ∙ ap (λ l. filter readable (lines (ended_lines kept)) ++ l) one

last_is_last : (line : List ℕ) (ls : List (List ℕ)) → is_last line (ls ++ line ∷ []) ≡ true
last_is_last line [] = (bytes_eq-Decides line line).1 refl
last_is_last line (l ∷ []) = (bytes_eq-Decides line line).1 refl
last_is_last line (l ∷ m ∷ ls) = last_is_last line (m ∷ ls)

pub not_twice : (text history : List ℕ) → DraftText text → nothing_to_add text (written text history) ≡ true
not_twice [] history good = refl
not_twice (c ∷ cs) history good =
    or_right _ _ (ap (is_last (spell (c ∷ cs))) (new_line_last (c ∷ cs) history good (omega arith)) ∙ last_is_last (spell (c ∷ cs)) (readable_lines (ended_lines (last_of most_kept (readable_lines history)))))

-- What cutting gives is proper.
proper_if_some : (line : List ℕ) → NoNewline line → AllByRecursion Proper (unless_empty line)
proper_if_some [] none = tt
proper_if_some (b ∷ bs) none = ((none, omega arith), tt)

no_newline_in_front : (line : List ℕ) (n : ℕ) → NoNewline line → NoNewline (take n line)
no_newline_in_front line n none k h e =
    let size = length-take n line in
    none k (omega arith) (sym (get_or-take n line k 0 (omega arith)) ∙ e)

no_newline_pushed : (begun : List ℕ) (b : ℕ) → NoNewline begun → eqb b newline ≡ false → NoNewline (begun ++ b ∷ [])
no_newline_pushed begun b none other k h e =
    ⊎_elim
    (λ (l : k < length begun). none k l (sym (get_or_append_left begun (b ∷ []) 0 k l) ∙ e))
    (λ (l : length begun ≤ k).
    let here : length begun ≡ k = omega (arith, length_push begun b) in
    eqb-false b newline other (sym (get_or_push begun b 0 k here) ∙ e))
    (cases_lt k (length begun))

lines_proper : (begun bytes : List ℕ) → NoNewline begun → AllByRecursion Proper (lines_after begun bytes)
lines_proper begun [] none = proper_if_some begun none
lines_proper begun (b ∷ bs) none =
    cond_both (eqb b newline) _ _ (AllByRecursion Proper)
    (λ _. All-append Proper (unless_empty (without_return begun)) (lines_after [] bs) (proper_if_some (without_return begun) shorter) (lines_proper [] bs (λ k h. absurd (omega arith))))
    (λ other. lines_proper (begun ++ b ∷ []) bs (no_newline_pushed begun b none other))
  where
    shorter : NoNewline (without_return begun)
    shorter = cond_both (eqb (get_or begun (length begun - 1) 0) carriage_return) (take (length begun - 1) begun) begun NoNewline (λ _. no_newline_in_front begun (length begun - 1) none) (λ _. none)

proper_all_again : (ls : List (List ℕ)) → AllByRecursion Proper ls → AllByRecursion (λ l. without_return l ≡ l) ls → lines (ended_lines ls) ≡ ls
proper_all_again [] proper kept = no_lines [] refl
proper_all_again (l ∷ ls) (proper, others) (kept, more) =
    lines_after_one l (ended_lines ls) ∙ (λ i. proper_again l proper kept i ++ proper_all_again ls others more i)

all_kept : (ls : List (List ℕ)) → AllByRecursion (λ l. readable l ≡ true) ls → filter readable ls ≡ ls
all_kept [] good = refl
all_kept (l ∷ ls) (good, more) = cond-true (readable l) _ _ good ∙ ap (λ m. l ∷ m) (all_kept ls more)

pub read_again : (text history : List ℕ) → DraftText text → 0 < length text → AllByRecursion (λ l. without_return l ≡ l) (last_of most_kept (readable_lines history))
    → readable_lines (written text history) ≡ last_of most_kept (readable_lines history) ++ spell text ∷ []
unfolding readable_lines lines
read_again text history good some kept =
    let all = filter readable (lines history) in
    let proper = All-drop Proper (length all - most_kept) all (all_kept_by readable Proper (lines history) (lines_proper [] history (λ k h. absurd (omega arith)))) in
    let passes = All-drop (λ l. readable l ≡ true) (length all - most_kept) all (kept_by_passes readable (lines history)) in
    new_line_last text history good some
    ∙ ap (λ l. l ++ spell text ∷ []) (ap (filter readable) (proper_all_again (last_of most_kept all) proper kept) ∙ all_kept (last_of most_kept all) passes)

pub never_longer : (text history : List ℕ) → DraftText text → length (written text history) ≤ longest_written
unfolding readable_lines
never_longer text history good =
    let kept = last_of most_kept (readable_lines history) in
    let passes = All-drop (λ l. readable l ≡ true) (length (readable_lines history) - most_kept) (readable_lines history) (kept_by_passes readable (lines history)) in
    omega (arith, ap length (flat_map_more ended [] kept (spell text)), length-append (ended_lines kept) (ended (spell text)), length_push (spell text) newline, short_ended kept passes, few_kept (readable_lines history), spelling_short text good)

pub remembered_last : (text history : List ℕ) → DraftText text → 0 < length text → (others : List (List ℕ)) × (remembered_texts (written text history) ≡ others ++ text ∷ [])
remembered_last text history good some =
    let before = readable_lines (ended_lines (last_of most_kept (readable_lines history))) in
    let all = before ++ spell text ∷ [] in
    let surplus = length all - most_remembered in (
      map loaded (drop surplus before),
      ap (λ l. map loaded (last_of most_remembered l)) (new_line_last text history good some)
          ∙ ap (map loaded) (drop-append-le surplus before (spell text ∷ []) (omega (arith, length_push before (spell text))))
          ∙ map-append loaded (drop surplus before) (spell text ∷ []) ∙ ap (λ t. map loaded (drop surplus before) ++ t ∷ []) (gives_back text good.0),
    )
