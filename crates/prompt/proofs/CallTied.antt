-- One call, with what it changes behind the glass.
use Rattle.std.proofs.Common.{◌≡◌, ℕ, List, [], ◌++◌, Some, None, Option, sym, subst, ⊎_elim}
use Rattle.text.specs.declared.refusal.Refusal.{Refusal}
use Rattle.font.specs.declared.Columns.{Columns}
use Rattle.glass.specs.Row.{Row}
use Rattle.glass.specs.Calls.{GlassCall, Drew}
use Rattle.glass.specs.Ties.{Tied, StaysTied}
use Rattle.glass.proofs.Ties.{tied_still, tied_then}
use Rattle.glass.proofs.DrewTied.{DrewTied, drew_none, untied_drew}
use Rattle.prompt.specs.declared.state.Prompt.{Prompt}
use Rattle.prompt.specs.Requests.{Request, Reply}
use Rattle.prompt.specs.Session.{session, answer, after, glass_calls, refused_now, drawn_at, Refusing, OneCall}
use Rattle.prompt.specs.Made.{made_unless, calls_made, ChangedByCalls}
use Rattle.prompt.proofs.Runs.{decided}

module _ {G : Type 0} (columns : ℕ → Columns) (row : G → Row) (spare : G → ℕ) (tied : G → Tied) where
  pub record AcceptingTied (x : Request) (p : Prompt) (g : G) (r : Reply) (q : Prompt) (h : G) : Type 0 where
    pub answered : r ≡ answer columns (drawn_at columns row spare x g) x (session p)
    pub prompt_after : session q ≡ after columns (drawn_at columns row spare x g) x (session p)
    pub drew : DrewTied columns row spare tied (glass_calls columns (drawn_at columns row spare x g) x (session p)) g h

  pub record OneCallTied (x : Request) (p : Prompt) (g : G) (r : Reply) (q : Prompt) (h : G) : Type 0 where
    pub refused : (e : Refusal) → refused_now columns row spare x p g ≡ Some e → Refusing columns row spare e p g r q h
    pub accepted : refused_now columns row spare x p g ≡ None → AcceptingTied x p g r q h

module _ {G : Type 0} {columns : ℕ → Columns} {row : G → Row} {spare : G → ℕ} {tied : G → Tied} where
  -- what is told of it: what the call does,
  pub plainly : {x : Request} {p q : Prompt} {g h : G} {r : Reply} → OneCallTied columns row spare tied x p g r q h → OneCall columns row spare x p g r q h
  plainly o = record {
    refused = o.refused;
    accepted = λ e. let a = o.accepted e in record { answered = a.answered; prompt_after = a.prompt_after; row_after = a.drew.row_after };
  }

  -- and which glass calls it makes
  pub made : {x : Request} {p q : Prompt} {g h : G} {r : Reply} → OneCallTied columns row spare tied x p g r q h → DrewTied columns row spare tied (calls_made columns row spare x p g) g h
  made {x = x} {p = p} {g = g} {h = h} o =
      let ks = glass_calls columns (drawn_at columns row spare x g) x (session p) in
      ⊎_elim
      (λ (e : refused_now columns row spare x p g ≡ None). subst (λ (b : Option Refusal). DrewTied columns row spare tied (made_unless b ks) g h) (sym e) (o.accepted e).drew)
      (λ e. subst (λ (b : Option Refusal). DrewTied columns row spare tied (made_unless b ks) g h) (sym e.1) (subst (λ (z : G). DrewTied columns row spare tied [] g z) (sym (o.refused e.0 e.1).same_glass) (drew_none columns row spare tied g)))
      (decided (refused_now columns row spare x p g))

  pub drew_made : {x : Request} {p q : Prompt} {g h : G} {r : Reply} → OneCallTied columns row spare tied x p g r q h → Drew columns row spare (calls_made columns row spare x p g) g h
  drew_made o = untied_drew columns row spare tied (made o)

  pub kept_by : {x : Request} {p q : Prompt} {g h : G} {r : Reply} → OneCallTied columns row spare tied x p g r q h → StaysTied (calls_made columns row spare x p g) (tied g) (tied h)
  kept_by o = (made o).stays_tied

-- from call to call
pub changed_none : (a : Tied) → ChangedByCalls a a
changed_none a = record { calls = []; stays_tied = tied_still a }

pub changed_more : {a b c : Tied} {ks : List GlassCall} → ChangedByCalls a b → StaysTied ks b c → ChangedByCalls a c
changed_more {ks = ks} m t = record { calls = m.calls ++ ks; stays_tied = tied_then m.stays_tied t }
