-- What a glass is tied to, over several calls.
use Rattle.std.proofs.Common.{◌≡◌, ℕ, ◌+◌, ◌-◌, ◌<◌, ◌≤◌, List, [], ◌∷◌, ◌++◌, map, length, get_or, take, drop, Some, None, Option, sym, refl, ap, ◌∙◌, subst, append_assoc, arith}
use Rattle.std.proofs.lemmas.List.{drop-drop, append-nil, take_more, take_all, length-map, get_or-map}
use Rattle.glass.specs.declared.calls.Call.{Call}
use Rattle.glass.specs.Calls.{GlassCall, clear}
use Rattle.glass.specs.Ties.{Tied, StaysTied, untied, with_calls}
use Rattle.glass.specs.Performed.{call_of}

-- lists that are the same from a place on are the same from any later place on
pub drop_on : {X : Type 0} (xs ys : List X) (m n : ℕ) → m ≤ n → drop m xs ≡ drop m ys → drop n xs ≡ drop n ys
drop_on xs ys m n l e =
    let q : m + (n - m) ≡ n = omega arith in
    ap (λ k. drop k xs) (sym q) ∙ sym (drop-drop (n - m) m xs) ∙ ap (drop (n - m)) e ∙ drop-drop (n - m) m ys ∙ ap (λ k. drop k ys) q

no_calls : (o : Option (List GlassCall)) → o ≡ with_calls [] o
no_calls None = refl
no_calls (Some ks) = ap Some (sym (append-nil ks))

calls_then : (xs ys : List GlassCall) (o : Option (List GlassCall)) → with_calls ys (with_calls xs o) ≡ with_calls (xs ++ ys) o
calls_then xs ys None = refl
calls_then xs ys (Some ks) = ap Some (append_assoc ks xs ys)

pub tied_still : (t : Tied) → StaysTied [] t t
tied_still t = record { same_names = refl; same_line = refl; uses_more = omega arith; rest_kept = refl; on_record = no_calls t.told }

-- what keeps no record stays so
pub untied_stays : (ks : List GlassCall) → StaysTied ks untied untied
untied_stays ks = record { same_names = refl; same_line = refl; uses_more = omega arith; rest_kept = refl; on_record = refl }

pub tied_then : {xs ys : List GlassCall} {a b c : Tied} → StaysTied xs a b → StaysTied ys b c → StaysTied (xs ++ ys) a c
tied_then {xs} {ys} {a} {b} {c} p q =
    record {
      same_names = q.same_names ∙ p.same_names;
      same_line = q.same_line ∙ p.same_line;
      uses_more = omega (arith, p.uses_more, q.uses_more);
      rest_kept = q.rest_kept ∙ drop_on b.bytes a.bytes b.used c.used q.uses_more p.rest_kept;
      on_record = q.on_record ∙ ap (with_calls ys) p.on_record ∙ calls_then xs ys a.told;
    }

-- one more call of a list
pub tied_more : (calls : List Call) (i : ℕ) (k : Call) {a b c : Tied} → i < length calls → StaysTied (take i (map call_of calls)) a b → StaysTied (call_of (get_or calls i k) ∷ []) b c → StaysTied (take (i + 1) (map call_of calls)) a c
tied_more calls i k {a} {b} {c} l p q =
    let n : i < length (map call_of calls) = simp length-map l in
    let e : take i (map call_of calls) ++ (call_of (get_or calls i k) ∷ []) ≡ take (i + 1) (map call_of calls) =
    ap (λ (x : GlassCall). take i (map call_of calls) ++ (x ∷ [])) (sym (get_or-map call_of calls i k clear l)) ∙ sym (take_more (map call_of calls) i clear n) in
    subst (λ (ks : List GlassCall). StaysTied ks a c) e (tied_then p q)

-- a refused call leaves no trace
pub tied_until : {ks : List GlassCall} {a b c : Tied} → StaysTied ks a b → StaysTied [] b c → StaysTied ks a c
tied_until {ks} {a} {b} {c} p q = subst (λ (xs : List GlassCall). StaysTied xs a c) (append-nil ks) (tied_then p q)

pub tied_all : (calls : List Call) (i : ℕ) {a b : Tied} → length calls ≤ i → StaysTied (take i (map call_of calls)) a b → StaysTied (map call_of calls) a b
tied_all calls i {a} {b} l p = subst (λ (ks : List GlassCall). StaysTied ks a b) (take_all i (map call_of calls) (simp length-map l)) p
