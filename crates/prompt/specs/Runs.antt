-- A run: calls made one after another, each on the prompt and the glass that the one before left.
use Rattle.std.specs.Prelude.{◌≡◌, ℕ, min, List, [], ◌∷◌, length}
use Rattle.font.specs.declared.Columns.{Columns}
use Rattle.glass.specs.Row.{Row}
use Rattle.history.specs.Session.{remembered_texts}
use Rattle.prompt.specs.declared.state.Prompt.{Prompt}
use Rattle.prompt.specs.declared.session.Call.{Call}
use Rattle.prompt.specs.Requests.{Request, Reply}
use Rattle.prompt.specs.Opening.{opened_with}
use Rattle.prompt.specs.Session.{session, OneCall}
use Rattle.prompt.specs.Promise.{RowShowsTheDraft}

-- as many calls are made as there are places for replies
abbrev pub replied_to : List Call → List Reply → ℕ
replied_to calls replies = min (length calls) (length replies)

module _ {G : Type 0} (columns : ℕ → Columns) (row : G → Row) (spare : G → ℕ) where
  -- calls, with their replies, lead from one prompt and glass to another
  pub data Run : Prompt → G → List Request → List Reply → Prompt → G → Type 0 where
    none : {p : Prompt} {g : G} → Run p g [] [] p g
    next : {p q z : Prompt} {g h k : G} {x : Request} {r : Reply} {xs : List Request} {rs : List Reply}
        → OneCall columns row spare x p g r q h → Run q h xs rs z k → Run p g (x ∷ xs) (r ∷ rs) z k

  -- A prompt is opened with a label and bytes of history; calls xs, with replies rs, lead from the glass g as found to the prompt q
  -- and the glass h.
  pub record SessionShowsTheDraft (label history : List ℕ) (xs : List Request) (rs : List Reply) (g : G) (q : Prompt) (h : G) : Type 0 where
    pub opened : Prompt
    pub newly_opened : session opened ≡ opened_with label history
    pub row_shows_the_draft : RowShowsTheDraft columns row spare (remembered_texts history) xs rs opened g q h
