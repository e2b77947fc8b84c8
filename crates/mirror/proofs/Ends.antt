-- What the maker of a buffer knows when its recorder has ended.
use Rattle.std.proofs.Common.{◌≡◌, ℕ, List, [], ◌∷◌, ◌++◌, drop, Some, None, Ok, Option, sym, refl, ap, ◌∙◌}
use base.Fml.{GName}
use Rattle.text.specs.declared.refusal.Refusal.{Refusal}
use Rattle.glass.specs.Calls.{GlassCall}
use Rattle.glass.specs.Ties.{StaysTied}
use Rattle.glass.proofs.Ties.{drop_on}
use Rattle.recorder.specs.declared.recorder.Recorder.{Recorder}
use Rattle.recorder.specs.Log.{calls_in, log_of, first_calls, opening, answer}
use Rattle.recorder.specs.Recorded.{log, tied_of}
use Rattle.recorder.proofs.Logs.{opening_read}

one_name : {a b : GName} → ◌≡◌ {A = List GName} (a ∷ []) (b ∷ []) → a ≡ b
one_name e = cc

one_record : {a b : List GlassCall} → ◌≡◌ {A = Option (List GlassCall)} (Some a) (Some b) → a ≡ b
one_record e = cc

-- a recorder over a buffer has taken calls, and is h then: what it wrote, and what it left
pub record Ends {F : Type 0} (buffer : GName) (line : ℕ) (bytes : List ℕ) (ks : List GlassCall) (h : Recorder F) : Type 0 where
  pub same_buffer : h.bytes.ghost_name ≡ buffer
  pub log_is : log h ≡ log_of line ks
  pub rest_kept : drop h.used h.bytes.now ≡ drop h.used bytes

pub ends : {F : Type 0} (s h : Recorder F) (buffer : GName) (line width : ℕ) (bytes : List ℕ) (o : Option Refusal) (ks : List GlassCall)
    → s.bytes.ghost_name ≡ buffer → s.line ≡ line → drop s.used s.bytes.now ≡ drop s.used bytes → log s ≡ opening o line width
    → StaysTied ks (tied_of s) (tied_of h) → Ends buffer line bytes (first_calls o width ++ ks) h
ends s h buffer line width bytes o ks n l r p t =
    let calls : calls_in (log h) ≡ first_calls o width ++ ks = one_record t.on_record ∙ ap (λ (xs : List GlassCall). xs ++ ks) (ap calls_in p ∙ opening_read o line width) in
    record {
      same_buffer = one_name t.same_names ∙ n;
      log_is = sym h.reads.0 ∙ ap (λ m. log_of m (calls_in (log h))) (t.same_line ∙ l) ∙ ap (log_of line) calls;
      rest_kept = t.rest_kept ∙ drop_on s.bytes.now bytes s.used h.used t.uses_more r;
    }

-- what is allowed is not refused
pub answer_allows : (o : Option Refusal) (u : Unit {0}) → Ok u ≡ answer o → o ≡ None
answer_allows None u e = refl
answer_allows (Some r) u e = cc
