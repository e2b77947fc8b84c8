-- Calls that are sound and can be paid for are not refused.
use Rattle.std.proofs.Common.{◌≡◌, ℕ, ◌<◌, ◌≤◌, true, List, [], ◌∷◌, None, sym, refl, subst, arith}
use lib.Utf8.{scalars}
use Rattle.std.proofs.lemmas.Bool.{le-ltb, lt-leb}
use Rattle.font.specs.declared.Columns.{Columns}
use Rattle.glass.specs.Row.{Row, width_of}
use Rattle.glass.specs.Calls.{GlassCall, place, pen, text, clear, reshape, apply, cost, cost_of_all, refused, Allowed}
use Rattle.glass.proofs.Front.{text_width, cleared_width}

-- a call whose arguments no row of this width refuses
abbrev pub Sound : ℕ → GlassCall → Type 0
Sound w (place k) = k < w
Sound w (pen p) = Unit {0}
Sound w (text cs) = scalars cs ≡ true
Sound w clear = Unit {0}
Sound w (reshape v) = ⊥

abbrev pub AllSound : ℕ → List GlassCall → Type 0
AllSound w [] = Unit {0}
AllSound w (k ∷ ks) = Sound w k × AllSound w ks

pub sound_passes : (k : GlassCall) (w n : ℕ) → Sound w k → cost k ≤ n → refused k w n ≡ None
sound_passes (place k) w n s h = rw (lt-leb w k s, le-ltb n 1 h)
sound_passes (pen p) w n s h = rw (le-ltb n 1 h)
sound_passes (text cs) w n s h = rw (le-ltb n _ h, s)
sound_passes clear w n s h = rw (le-ltb n 1 h)
sound_passes (reshape v) w n s h = absurd s

call_width : (columns : ℕ → Columns) (k : GlassCall) (r : Row) → Sound (width_of r) k → width_of (apply columns k r) ≡ width_of r
call_width columns (place k) r s = refl
call_width columns (pen p) r s = refl
call_width columns (text cs) r s = text_width columns cs r
call_width columns clear r s = cleared_width r
call_width columns (reshape w) r s = absurd s

pub allowed : (columns : ℕ → Columns) (ks : List GlassCall) (r : Row) (n : ℕ) → AllSound (width_of r) ks → cost_of_all ks ≤ n → Allowed columns ks r n
allowed columns [] r n s h = tt
allowed columns (k ∷ ks) r n s h = (
  sound_passes k (width_of r) n s.0 (omega arith),
  λ m le. allowed columns ks (apply columns k r) m (subst (λ (w : ℕ). AllSound w ks) (sym (call_width columns k r s.0)) s.1) (omega arith),
)
