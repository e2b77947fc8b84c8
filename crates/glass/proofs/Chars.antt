-- A loop over the characters of a text.
use Rattle.std.proofs.Common.{◌≡◌, ℕ, ◌+◌, ◌<◌, true, List, length, get_or, drop, sym, ◌∙◌}
use lib.Utf8.{scalar, scalars}
use Rattle.std.proofs.lemmas.List.{at_drop_more}
use Rattle.std.proofs.lemmas.Bool.{and_parts}

-- where the characters from i on are scalar values, the one at i is, and so are those after it
pub scalar_here : (cs : List ℕ) (i : ℕ) → i < length cs → scalars (drop i cs) ≡ true → (scalar (get_or cs i 0) ≡ true) × (scalars (drop (i + 1) cs) ≡ true)
scalar_here cs i h e = and_parts (scalar (get_or cs i 0)) (scalars (drop (i + 1) cs)) (sym (at_drop_more scalars cs i 0 h) ∙ e)
