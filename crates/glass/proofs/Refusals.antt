-- When a call is refused, and why.
use Rattle.std.proofs.Common.{◌≡◌, ℕ, ◌<◌, ◌≤◌, true, false, Some, None}
use Rattle.std.proofs.lemmas.Bool.{lt-ltb, le-ltb, or_from}
use Rattle.text.specs.declared.refusal.Refusal.TheVariants.{OutsideGlass, LowSpare, NotScalar}
use Rattle.glass.specs.Row.{widest}
use Rattle.glass.specs.Calls.{GlassCall, cost, no_width, outside, no_scalar, refused}

pub not_refused : (k : GlassCall) (w s : ℕ) → outside k w ≡ false → cost k ≤ s → no_scalar k ≡ false → refused k w s ≡ None
not_refused k w s a b d = let e = le-ltb s (cost k) b in rw (a, e, d)

pub refused_outside : (k : GlassCall) (w s : ℕ) → outside k w ≡ true → refused k w s ≡ Some OutsideGlass
refused_outside k w s a = rw a

pub refused_spare : (k : GlassCall) (w s : ℕ) → outside k w ≡ false → s < cost k → refused k w s ≡ Some LowSpare
refused_spare k w s a b = let e = lt-ltb s (cost k) b in rw (a, e)

pub refused_scalar : (k : GlassCall) (w s : ℕ) → outside k w ≡ false → cost k ≤ s → no_scalar k ≡ true → refused k w s ≡ Some NotScalar
refused_scalar k w s a b d = let e = le-ltb s (cost k) b in rw (a, e, d)

pub some_width : (w : ℕ) → 1 ≤ w → w ≤ widest → no_width w ≡ false
some_width w a b = or_from _ _ (le-ltb w 1 a) (le-ltb widest w b)
