-- A list of calls performed one after another, up to the first that is refused.
use Rattle.std.proofs.Common.{◌≡◌, ℕ, ◌+◌, ◌<◌, ◌≤◌, List, map, length, get_or, take, Some, None, Ok, Err, Result, sym, ap, ◌∙◌, subst}
use Rattle.std.proofs.lemmas.List.{length-map, get_or-map}
use Rattle.text.specs.declared.refusal.Refusal.{Refusal}
use Rattle.font.specs.declared.Columns.{Columns}
use Rattle.glass.specs.declared.calls.Call.{Call}
use Rattle.glass.specs.declared.calls.Stopped.{Stopped}
use Rattle.glass.specs.Row.{Row, width_of}
use Rattle.glass.specs.Calls.{GlassCall, clear, apply, apply_all, cost, refused, Drew}
use Rattle.glass.specs.Performed.{call_of, StoppedAt, Performed, made}
use Rattle.glass.proofs.Drew.{drew_more, drew_all}

module _ {G : Type 0} (columns : ℕ → Columns) (row : G → Row) (spare : G → ℕ) (calls : List Call) (g : G) where
  -- the call at i was made
  pub performed_more : (i : ℕ) (k : Call) (h j : G) → i < length calls → Drew columns row spare (take i (map call_of calls)) g h
      → (refused (call_of (get_or calls i k)) (width_of (row h)) (spare h) ≡ None) × (row j ≡ apply columns (call_of (get_or calls i k)) (row h)) × (spare h ≤ spare j + cost (call_of (get_or calls i k)))
      → Drew columns row spare (take (i + 1) (map call_of calls)) g j
  performed_more i k h j l d o =
      drew_more columns row spare (map call_of calls) i (call_of (get_or calls i k)) g h j (simp length-map l) (get_or-map call_of calls i k clear l) d o.1 o.2

  -- the call at i was refused
  pub performed_until : (i : ℕ) (k : Call) (e : Refusal) (h j : G) → i < length calls → Drew columns row spare (take i (map call_of calls)) g h
      → (refused (call_of (get_or calls i k)) (width_of (row h)) (spare h) ≡ Some e) × (j ≡ h)
      → StoppedAt columns row spare (map call_of calls) g (record { made = i; refusal = e }) j
  performed_until i k e h j l d o =
      let here : refused (get_or (map call_of calls) i clear) (width_of (row h)) (spare h) ≡ Some e = ap (λ (x : GlassCall). refused x (width_of (row h)) (spare h)) (get_or-map call_of calls i k clear l) ∙ o.0 in
      subst (λ (x : G). StoppedAt columns row spare (map call_of calls) g (record { made = i; refusal = e }) x) (sym o.1)
      (record { before_the_end = simp length-map l; drew = d; refused_next = here })

  pub performed_all : (i : ℕ) (h : G) → length calls ≤ i → Drew columns row spare (take i (map call_of calls)) g h → Drew columns row spare (map call_of calls) g h
  performed_all i h l d = drew_all columns row spare (map call_of calls) i g h (simp length-map l) d

-- the row shows the calls that were made, and no others
pub performed_row : {G : Type 0} (columns : ℕ → Columns) (row : G → Row) (spare : G → ℕ) (ks : List GlassCall) (g h : G) (r : Result (Unit {0}) Stopped)
    → Performed columns row spare ks g r h → row h ≡ apply_all columns (made ks r) (row g)
performed_row columns row spare ks g h (Ok x) p = p.row_after
performed_row columns row spare ks g h (Err s) p = p.drew.row_after
