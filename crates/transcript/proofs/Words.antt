-- Reading on from where the words before came to.
use Rattle.std.proofs.Common.{◌≡◌, ℕ, List, [], ◌∷◌, ◌++◌, Ok, Err, Result, IfErr, sym, subst}
use Rattle.std.specs.Result.{IsErrAnd}
use Rattle.transcript.specs.declared.fault.CallError.{CallError}
use Rattle.transcript.specs.Reading.{SpellsThen}

pub spells_on : (P : List ℕ → Type 0) (bs cs text rest : List ℕ) → SpellsThen (λ t. t ≡ rest) bs text → SpellsThen P cs rest → SpellsThen P (bs ++ cs) text
spells_on P [] cs text rest e h = subst (SpellsThen P cs) (sym e) h
spells_on P (b ∷ bs) cs text rest s h = (s.0, s.1, s.2, s.3, spells_on P bs cs s.1 rest s.4 h)

pub same_error : {T : Type 0} (P : CallError → Type 0) (e : CallError) (r : Result T CallError) → IsErrAnd r (λ x. x ≡ e) → P e → IfErr r P
same_error P e (Ok x) h p = tt
same_error P e (Err x) h p = subst P (sym h) p
