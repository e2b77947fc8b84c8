-- Calls that are allowed and made one after another, with what the glass is tied to.
use Rattle.std.proofs.Common.{◌≡◌, ℕ, ◌+◌, ◌≤◌, List, [], ◌++◌, sym, refl, ap, ◌∙◌, subst, append_assoc, arith}
use Rattle.font.specs.declared.Columns.{Columns}
use Rattle.glass.specs.Row.{Row}
use Rattle.glass.specs.Calls.{GlassCall, apply_all, cost_of_all, Allowed, Drew}
use Rattle.glass.specs.Ties.{Tied, StaysTied}
use Rattle.glass.proofs.Drew.{allowed_rest, cost_append, apply_append}
use Rattle.glass.proofs.Ties.{tied_still, tied_then}

-- the calls were made on the glass g, which is h then
pub record DrewTied {G : Type 0} (columns : ℕ → Columns) (row : G → Row) (spare : G → ℕ) (tied : G → Tied) (ks : List GlassCall) (g h : G) : Type 0 where
  pub row_after : row h ≡ apply_all columns ks (row g)
  pub paid : spare g ≤ spare h + cost_of_all ks
  pub stays_tied : StaysTied ks (tied g) (tied h)

-- Of the calls `all`, the first were made on the glass g, which is h then, and those of `left` are still to be made: they are allowed.
pub record LeadsTied {G : Type 0} (columns : ℕ → Columns) (row : G → Row) (spare : G → ℕ) (tied : G → Tied) (all left : List GlassCall) (g h : G) : Type 0 where
  pub made : List GlassCall
  pub made_then_left : all ≡ made ++ left
  pub drew : DrewTied columns row spare tied made g h
  pub allowed : Allowed columns left (row h) (spare h)

module _ {G : Type 0} (columns : ℕ → Columns) (row : G → Row) (spare : G → ℕ) (tied : G → Tied) where
  pub both : {ks : List GlassCall} {g h : G} → Drew columns row spare ks g h → StaysTied ks (tied g) (tied h) → DrewTied columns row spare tied ks g h
  both d t = record { row_after = d.row_after; paid = d.paid; stays_tied = t }

  pub untied_drew : {ks : List GlassCall} {g h : G} → DrewTied columns row spare tied ks g h → Drew columns row spare ks g h
  untied_drew d = record { row_after = d.row_after; paid = d.paid }

  pub drew_none : (g : G) → DrewTied columns row spare tied [] g g
  drew_none g = record { row_after = refl; paid = omega arith; stays_tied = tied_still (tied g) }

  pub drew_then : (xs ys : List GlassCall) (g h k : G) → DrewTied columns row spare tied xs g h → DrewTied columns row spare tied ys h k → DrewTied columns row spare tied (xs ++ ys) g k
  drew_then xs ys g h k p q = record {
    row_after = q.row_after ∙ ap (apply_all columns ys) p.row_after ∙ sym (apply_append columns xs ys (row g));
    paid = omega (arith, p.paid, q.paid, cost_append xs ys);
    stays_tied = tied_then p.stays_tied q.stays_tied;
  }

  -- what comes after is allowed still
  pub drew_on : (xs ys : List GlassCall) (g h : G) → Allowed columns (xs ++ ys) (row g) (spare g) → DrewTied columns row spare tied xs g h → Allowed columns ys (row h) (spare h)
  drew_on xs ys g h a p =
      subst (λ (r : Row). Allowed columns ys r (spare h)) (sym p.row_after) (allowed_rest columns xs ys (row g) (spare g) (spare h) p.paid a)

  pub leads_first : (all : List GlassCall) (g : G) → Allowed columns all (row g) (spare g) → LeadsTied columns row spare tied all all g g
  leads_first all g a = record { made = []; made_then_left = refl; drew = drew_none g; allowed = a }

  pub leads_on : (all xs ys : List GlassCall) (g h k : G) → LeadsTied columns row spare tied all (xs ++ ys) g h → DrewTied columns row spare tied xs h k → LeadsTied columns row spare tied all ys g k
  leads_on all xs ys g h k l d = record {
    made = l.made ++ xs;
    made_then_left = l.made_then_left ∙ sym (append_assoc l.made xs ys);
    drew = drew_then l.made xs g h k l.drew d;
    allowed = drew_on xs ys h k l.allowed d;
  }

  pub leads_last : (all xs : List GlassCall) (g h k : G) → LeadsTied columns row spare tied all xs g h → DrewTied columns row spare tied xs h k → DrewTied columns row spare tied all g k
  leads_last all xs g h k l d = subst (λ (ks : List GlassCall). DrewTied columns row spare tied ks g k) (sym l.made_then_left) (drew_then l.made xs g h k l.drew d)

  pub leads_none : (all : List GlassCall) (g h : G) → LeadsTied columns row spare tied all [] g h → DrewTied columns row spare tied all g h
  leads_none all g h l = leads_last all [] g h h l (drew_none h)
