use Rattle.std.proofs.Common.{rules, true, refl, ap, ◌∷◌, List, ℕ}
use Rattle.std.proofs.Output.{has_written_of_eq}
use Rattle.std.proofs.lemmas.Fmt.{hex_byte}
use Rattle.transcript.proofs.Written.{one_more}
use Rattle.transcript.specs.Showing.{byte_text}
use Rattle.transcript.proofs.showing.HexDisplay.fmt.Goals as goal

pub loop-byte-preserved : goal.loop-byte-preserved
loop-byte-preserved g c = λ plain.
    let before = c.loop-byte.invariant plain in
    let written = rw (c.laid_out.ensures, c.in_radix.ensures) at c.in_ok-write.ensures.writes in
    one_more _ byte_text c.args.self.now.0.now c.loop-byte.byte-index 0 _ _ _ c.loop-byte-test.true before
    (has_written_of_eq _ _ _ _ _ (ap (λ (t : List ℕ). 0x20 ∷ t) (hex_byte true _ (search rules))) (written before.plain refl))
