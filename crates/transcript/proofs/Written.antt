-- Writing what one more element of a list shows as.
use Rattle.std.proofs.Common.{ℕ, ◌+◌, ◌<◌, List, [], length, take, slice_index_or, sym, ap, ◌∙◌}
use Rattle.std.proofs.lemmas.List.{take_more, flat_map_more}
use Rattle.std.proofs.Output.{has_written_append, has_written_of_eq}
use Rattle.std.specs.Fmt.{HasWritten}
use Rattle.std.specs.declared.fmt.Formatter.{Formatter}
use Rattle.std.specs.List.{flat_map}

pub one_more : {W X : Type 0} (took : W → List ℕ → W → Type 0) (show : X → List ℕ) (xs : List X) (i : ℕ) (d : X) (f g h : Formatter W) → i < length xs → HasWritten took f (flat_map show (take i xs)) g → HasWritten took g (show (slice_index_or xs i d)) h → HasWritten took f (flat_map show (take (i + 1) xs)) h
one_more took show xs i d f g h inside before now =
    has_written_of_eq _ _ _ _ _ (flat_map_more show [] (take i xs) (slice_index_or xs i d) ∙ ap (flat_map show) (sym (take_more xs i d inside))) (has_written_append _ _ _ _ _ _ before now)
