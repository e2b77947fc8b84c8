-- Bytes are cut at the first 0A.
use Rattle.std.proofs.Common.{◌≡◌, ℕ, suc, ◌+◌, ◌<◌, false, eqb, List, [], ◌∷◌, ◌++◌, length, get_or, take, drop, sym, refl, ap, ◌∙◌, append_assoc, append-nil, arith}
use Rattle.std.proofs.lemmas.List.{take-append-drop, drop_more, get_or-take, length-take-le}
use Rattle.std.proofs.lemmas.Bool.{ne_eqb}
use Rattle.history.specs.Lines.{newline, without_return, unless_empty, lines_after, lines, NoNewline, LinesLaws}

-- the bytes of a piece go to what was begun
piece_ended : (begun piece rest : List ℕ) → NoNewline piece → lines_after begun (piece ++ newline ∷ rest) ≡ unless_empty (without_return (begun ++ piece)) ++ lines_after [] rest
piece_ended begun [] rest h = ap (λ l. unless_empty (without_return l) ++ lines_after [] rest) (sym (append-nil begun))
piece_ended begun (b ∷ bs) rest h =
    let other : eqb b newline ≡ false = ne_eqb b newline (h 0 (omega arith)) in
    rw other (piece_ended (begun ++ b ∷ []) bs rest (λ k l. h (suc k) (omega arith))
    ∙ ap (λ l. unless_empty (without_return l) ++ lines_after [] rest) (append_assoc begun (b ∷ []) bs))

piece_unended : (begun piece : List ℕ) → NoNewline piece → lines_after begun piece ≡ unless_empty (begun ++ piece)
piece_unended begun [] h = ap unless_empty (sym (append-nil begun))
piece_unended begun (b ∷ bs) h =
    let other : eqb b newline ≡ false = ne_eqb b newline (h 0 (omega arith)) in
    rw other (piece_unended (begun ++ b ∷ []) bs (λ k l. h (suc k) (omega arith)) ∙ ap unless_empty (append_assoc begun (b ∷ []) bs))

pub lines_laws : LinesLaws
unfolding lines
lines_laws = record { ended = piece_ended []; unended = piece_unended [] }

pub no_lines : (bytes : List ℕ) → length bytes ≡ 0 → lines bytes ≡ []
unfolding lines
no_lines [] none = refl
no_lines (b ∷ bs) none = absurd (omega arith)

-- no 0A: all is one piece
pub cut_nowhere : (bytes : List ℕ) → NoNewline bytes → lines bytes ≡ unless_empty bytes ++ lines []
cut_nowhere bytes none = lines_laws.unended bytes none ∙ sym (append-nil (unless_empty bytes)) ∙ ap (λ l. unless_empty bytes ++ l) (sym (no_lines [] refl))

-- the first 0A
pub cut_there : (bytes : List ℕ) (end : ℕ) → ((k : ℕ) → k < end → get_or bytes k 0 ≡ newline → ⊥) → end < length bytes → get_or bytes end 0 ≡ newline → lines bytes ≡ unless_empty (without_return (take end bytes)) ++ lines (drop (end + 1) bytes)
cut_there bytes end none_before h e =
    let whole : bytes ≡ take end bytes ++ newline ∷ drop (end + 1) bytes = sym (take-append-drop end bytes) ∙ ap (λ l. take end bytes ++ l) (drop_more bytes end 0 h ∙ ap (λ b. b ∷ drop (end + 1) bytes) e) in
    let size : length (take end bytes) ≡ end = length-take-le end bytes (omega arith) in
    ap lines whole ∙ lines_laws.ended (take end bytes) (drop (end + 1) bytes) (λ k l f. none_before k (omega arith) (sym (get_or-take end bytes k 0 (omega arith)) ∙ f))
