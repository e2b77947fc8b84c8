-- The glass calls that a call of a prompt makes.
use Rattle.std.specs.Prelude.{ℕ, List, [], Some, None, Option}
use Rattle.text.specs.declared.refusal.Refusal.{Refusal}
use Rattle.font.specs.declared.Columns.{Columns}
use Rattle.glass.specs.Row.{Row}
use Rattle.glass.specs.Calls.{GlassCall}
use Rattle.glass.specs.Ties.{Tied, StaysTied}
use Rattle.prompt.specs.declared.state.Prompt.{Prompt}
use Rattle.prompt.specs.Requests.{Request}
use Rattle.prompt.specs.Session.{session, glass_calls, refused_now, drawn_at}

abbrev pub made_unless : Option Refusal → List GlassCall → List GlassCall
made_unless None ks = ks
made_unless (Some e) ks = []

-- what an accepted call asks of the glass, and nothing where the table refuses it
abbrev pub calls_made : {G : Type 0} → (ℕ → Columns) → (G → Row) → (G → ℕ) → Request → Prompt → G → List GlassCall
calls_made columns row spare x p g = made_unless (refused_now columns row spare x p g) (glass_calls columns (drawn_at columns row spare x g) x (session p))

-- what lies behind a glass was changed by glass calls alone
pub record ChangedByCalls (before after : Tied) : Type 0 where
  pub calls : List GlassCall
  pub stays_tied : StaysTied calls before after
