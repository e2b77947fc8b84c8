-- Calls that are allowed and made one after another.
use Rattle.std.proofs.Common.{◌≡◌, ℕ, ◌+◌, ◌<◌, ◌≤◌, Bool, true, false, cond, ltb, List, [], ◌∷◌, ◌++◌, length, get_or, take, Some, None, Option, sym, refl, ap, ◌∙◌, subst, arith, ltb-false}
use Rattle.std.proofs.lemmas.List.{take_more, take_all}
use Rattle.std.proofs.lemmas.Bool.{le-ltb}
use Rattle.font.specs.declared.Columns.{Columns}
use Rattle.text.specs.declared.refusal.Refusal.{Refusal}
use Rattle.glass.specs.Row.{Row, width_of}
use Rattle.glass.specs.Calls.{GlassCall, clear, apply, apply_all, cost, cost_of_all, refused, Allowed, Drew, Leads}

-- a reason that goes away
passes : (a b b' : Bool) (d e : Refusal) (o : Option Refusal) → (b ≡ false → b' ≡ false) → cond a (Some d) (cond b (Some e) o) ≡ None → cond a (Some d) (cond b' (Some e) o) ≡ None
passes true b b' d e o f h = h
passes false true b' d e o f h = cc
passes false false b' d e o f h = rw (f refl) h

refused_less : (k : GlassCall) (w n m : ℕ) → n ≤ m → refused k w n ≡ None → refused k w m ≡ None
refused_less k w n m le h = passes _ (ltb n (cost k)) (ltb m (cost k)) _ _ _ (λ e. let u = ltb-false _ _ e in le-ltb m (cost k) (omega arith)) h

pub allowed_more : (columns : ℕ → Columns) (ks : List GlassCall) (r : Row) (n m : ℕ) → n ≤ m → Allowed columns ks r n → Allowed columns ks r m
allowed_more columns [] r n m le a = tt
allowed_more columns (k ∷ ks) r n m le a = (refused_less k (width_of r) n m le a.0, λ left h. a.1 left (omega arith))

pub allowed_front : (columns : ℕ → Columns) (xs ys : List GlassCall) (r : Row) (n : ℕ) → Allowed columns (xs ++ ys) r n → Allowed columns xs r n
allowed_front columns [] ys r n a = tt
allowed_front columns (x ∷ xs) ys r n a = (a.0, λ left h. allowed_front columns xs ys (apply columns x r) left (a.1 left h))

pub allowed_rest : (columns : ℕ → Columns) (xs ys : List GlassCall) (r : Row) (n m : ℕ) → n ≤ m + cost_of_all xs → Allowed columns (xs ++ ys) r n → Allowed columns ys (apply_all columns xs r) m
allowed_rest columns [] ys r n m le a = allowed_more columns ys r n m (omega arith) a
allowed_rest columns (x ∷ xs) ys r n m le a = allowed_rest columns xs ys (apply columns x r) (m + cost_of_all xs) m (omega arith) (a.1 (m + cost_of_all xs) (omega arith))

pub cost_append : (xs ys : List GlassCall) → cost_of_all (xs ++ ys) ≡ cost_of_all xs + cost_of_all ys
cost_append [] ys = omega arith
cost_append (x ∷ xs) ys = let i = cost_append xs ys in omega arith

pub apply_append : (columns : ℕ → Columns) (xs ys : List GlassCall) (r : Row) → apply_all columns (xs ++ ys) r ≡ apply_all columns ys (apply_all columns xs r)
apply_append columns [] ys r = refl
apply_append columns (x ∷ xs) ys r = apply_append columns xs ys (apply columns x r)

module _ {G : Type 0} (columns : ℕ → Columns) (row : G → Row) (spare : G → ℕ) where
  pub drew_then : (xs ys : List GlassCall) (g h k : G) → Drew columns row spare xs g h → Drew columns row spare ys h k → Drew columns row spare (xs ++ ys) g k
  drew_then xs ys g h k p q = record {
    row_after = q.row_after ∙ ap (apply_all columns ys) p.row_after ∙ sym (apply_append columns xs ys (row g));
    paid = omega (arith, p.paid, q.paid, cost_append xs ys);
  }

  -- what comes after is allowed still
  pub drew_on : (xs ys : List GlassCall) (g h : G) → Allowed columns (xs ++ ys) (row g) (spare g) → Drew columns row spare xs g h → Allowed columns ys (row h) (spare h)
  drew_on xs ys g h a p =
      subst (λ (r : Row). Allowed columns ys r (spare h)) (sym p.row_after) (allowed_rest columns xs ys (row g) (spare g) (spare h) p.paid a)

  pub leads_first : (all : List GlassCall) (g : G) → Allowed columns all (row g) (spare g) → Leads columns row spare all all g g
  leads_first all g a = record { same_row = refl; same_cost = omega arith; allowed = a }

  pub leads_on : (all xs ys : List GlassCall) (g h k : G) → Leads columns row spare all (xs ++ ys) g h → Drew columns row spare xs h k → Leads columns row spare all ys g k
  leads_on all xs ys g h k l d = record {
    same_row = ap (apply_all columns ys) d.row_after ∙ sym (apply_append columns xs ys (row h)) ∙ l.same_row;
    same_cost = omega (arith, l.same_cost, d.paid, cost_append xs ys);
    allowed = drew_on xs ys h k l.allowed d;
  }

  pub leads_last : (all xs : List GlassCall) (g h k : G) → Leads columns row spare all xs g h → Drew columns row spare xs h k → Drew columns row spare all g k
  leads_last all xs g h k l d = record {
    row_after = d.row_after ∙ l.same_row;
    paid = omega (arith, l.same_cost, d.paid);
  }

  pub leads_none : (all : List GlassCall) (g h : G) → Leads columns row spare all [] g h → Drew columns row spare all g h
  leads_none all g h l = record { row_after = l.same_row; paid = omega (arith, l.same_cost) }

  pub drew_none : (g : G) → Drew columns row spare [] g g
  drew_none g = record { row_after = refl; paid = omega arith }

  -- one more call of a list
  pub drew_more : (ks : List GlassCall) (i : ℕ) (k : GlassCall) (g h j : G) → i < length ks → get_or ks i clear ≡ k
      → Drew columns row spare (take i ks) g h → row j ≡ apply columns k (row h) → spare h ≤ spare j + cost k → Drew columns row spare (take (i + 1) ks) g j
  drew_more ks i k g h j l e d r s =
      let one : Drew columns row spare (k ∷ []) h j = record { row_after = r; paid = omega arith } in
      let more : take i ks ++ (k ∷ []) ≡ take (i + 1) ks = ap (λ (x : GlassCall). take i ks ++ (x ∷ [])) (sym e) ∙ sym (take_more ks i clear l) in
      subst (λ (xs : List GlassCall). Drew columns row spare xs g j) more (drew_then (take i ks) (k ∷ []) g h j d one)

  pub drew_all : (ks : List GlassCall) (i : ℕ) (g h : G) → length ks ≤ i → Drew columns row spare (take i ks) g h → Drew columns row spare ks g h
  drew_all ks i g h l d = subst (λ (xs : List GlassCall). Drew columns row spare xs g h) (take_all i ks l) d
