-- The ledger: what a seller has typed, told by the calls alone. It knows nothing of widths, offsets or the clamp.
use Rattle.std.specs.Prelude.{ℕ, ◌+◌, ◌-◌, Bool, true, false, cond, List, [], ◌∷◌, ◌++◌, map, length, nat_lt, slice_index_or, slice_set}
use Rattle.text.specs.Utf8.{characters}
use Rattle.font.specs.declared.Columns.{Columns}
use Rattle.draft.specs.Line.{Line, line, empty_line, with_inserted}
use Rattle.prompt.specs.declared.keys.Operation.{Operation}
use Rattle.prompt.specs.declared.keys.Operation.TheVariants.{Finish, Cancel, Edit, Previous, Next, Ignore}
use Rattle.prompt.specs.Keys.{operation}
use Rattle.prompt.specs.Edits.{edited}
use Rattle.prompt.specs.Requests.{Request, draw, key, paste, resize}

pub record Ledger : Type 0 where
  pub lines : List Line
  pub hand : ℕ

-- the remembered texts, each with its place at the end, and then an empty line, in hand
abbrev pub opened : (texts : List (List ℕ)) → Ledger
opened texts = record { lines = map (λ t. line t (length t)) texts ++ (empty_line ∷ []); hand = length texts }

abbrev pub line_in_hand : Ledger → Line
line_in_hand l = slice_index_or l.lines l.hand empty_line

abbrev pub with_line : Line → Ledger → Ledger
with_line x l = record { lines = slice_set l.lines l.hand x; hand = l.hand }

abbrev pub with_hand : ℕ → Ledger → Ledger
with_hand h l = record { lines = l.lines; hand = h }

-- which draft is in hand after the one before or the one after is taken, if there is one
abbrev pub hand_back : ℕ → ℕ
hand_back hand = hand - 1

abbrev pub hand_on : (count hand : ℕ) → ℕ
hand_on count hand = cond (nat_lt (hand + 1) count) (hand + 1) hand

abbrev pub after_operation : (ℕ → Columns) → Operation → Ledger → Ledger
after_operation columns Finish l = l
after_operation columns Cancel l = l
after_operation columns (Edit e) l = with_line (edited columns e (line_in_hand l)) l
after_operation columns Previous l = with_hand (hand_back l.hand) l
after_operation columns Next l = with_hand (hand_on (length l.lines) l.hand) l
after_operation columns Ignore l = l

-- an accepted request
abbrev pub entered : (ℕ → Columns) → Request → Ledger → Ledger
entered columns draw l = l
entered columns (key event) l = after_operation columns (operation event) l
entered columns (paste bytes) l = with_line (with_inserted (characters bytes) (line_in_hand l)) l
entered columns (resize w) l = l

-- a refused one changes nothing
abbrev pub step : (ℕ → Columns) → Request → (refused : Bool) → Ledger → Ledger
step columns q true l = l
step columns q false l = entered columns q l

abbrev pub fed : (ℕ → Columns) → Ledger → List (Request × Bool) → Ledger
fed columns l [] = l
fed columns l (e ∷ es) = fed columns (step columns e.0 e.1 l) es
