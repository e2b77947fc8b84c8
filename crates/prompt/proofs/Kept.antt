-- What holds of a prompt and its glass from call to call.
use Rattle.std.proofs.Common.{◌≡◌, ℕ, ◌+◌, ◌-◌, ◌<◌, ◌≤◌, min, Bool, true, false, cond, List, [], ◌∷◌, ◌++◌, map, length, get_or, None, sym, refl, ap, ◌∙◌, subst, inl, ⊎_elim, arith, length-append, length-set, ltb-true, eqb-true, Err}
use lib.ListN.{length-map, length-replicate}
use lib.Seq.{get_or-append_seam}
use Rattle.std.proofs.lemmas.List.{get_or-set_same}
use Rattle.font.specs.declared.Columns.{Columns}
use Rattle.font.specs.declared.Columns.TheVariants.{One}
use Rattle.font.specs.Labels.{has_label}
use Rattle.text.specs.declared.refusal.Refusal.{Refusal}
use Rattle.glass.specs.Row.{Row, blank_row, blank_cell, width_of}
use Rattle.glass.specs.Calls.{apply_all, with_character}
use Rattle.draft.specs.Line.{Line, line, empty_line, with_inserted}
use Rattle.draft.specs.Draft.{Draft, draft}
use Rattle.draft.specs.Scroll.{shown_columns, margin, WellScrolled, clamped}
use Rattle.text.specs.Utf8.{characters}
use Rattle.draft.proofs.Clamp.{clamp_scrolls_well, clamp_keeps_well_scrolled}
use Rattle.draft.specs.declared.action.DisplayAction.{DisplayAction}
use Rattle.draft.specs.declared.action.DisplayAction.TheVariants as action
use Rattle.prompt.specs.declared.keys.Operation.{Operation}
use Rattle.prompt.specs.declared.keys.Operation.TheVariants as operation
use Rattle.prompt.specs.declared.keys.Edit.TheVariants.{Insert, Remove, Move, Transpose}
use Rattle.prompt.specs.declared.keys.Motion.{Motion}
use Rattle.prompt.specs.declared.keys.Motion.TheVariants as motion
use Rattle.prompt.specs.declared.state.Prompt.{Prompt}
use Rattle.drawing.specs.Ascii.{printable}
use Rattle.prompt.specs.Keys.{operation as operation_of, typing}
use Rattle.prompt.specs.Edits.{editing, answer_to_motion}
use Rattle.draft.specs.Edits.{inserting, redraw_if, goes_out_alone}
use Rattle.drawing.specs.Drawing.{text_start, drawing}
use Rattle.prompt.specs.Requests.{Request, draw, key, paste, resize, Reply}
use Rattle.prompt.specs.Ledger.{opened}
use Rattle.prompt.specs.Refused.{own_reasons, width_after}
use Rattle.prompt.specs.Session.{Session, session, empty_draft, draft_in_hand, ledger, newly_opened, room, drawn, with_draft, scrolled, operated, after_operation, after, action_of, calls_by, glass_calls, refused_now, drawn_at, OneCall}
use Rattle.prompt.specs.Promise.{RowShowsTheDraft, ShowsThePrompt}
use Rattle.drawing.specs.Sight.{CursorInSight}
use Rattle.drawing.proofs.Forgets.{drawn_same}
use Rattle.history.specs.Session.{remembered_texts}
use Rattle.prompt.specs.Opening.{opened_with}
use Rattle.prompt.specs.Runs.{Run, SessionShowsTheDraft}
use Rattle.prompt.proofs.Runs.{seen, decided, row_shows_the_draft}
use Rattle.prompt.proofs.Widths.{width_is}
use Rattle.prompt.proofs.Ready.{ready, sound_in_hand}
use Rattle.history.proofs.InHand.{sessions_are_sound}
use Rattle.drawing.proofs.Sight.{sight}
use Rattle.drawing.proofs.Typed.{inserted_well, typed_row}
use Rattle.prompt.proofs.Unmoved.{silent, Well, unmoved}
use Rattle.std.proofs.lemmas.Bool.{and_parts as both, not-true as flipped}

-- the draft in hand is one of the drafts
abbrev Held : Session → Type 0
Held s = s.hand < length s.drafts

prompt_held : (p : Prompt) → Held (session p)
prompt_held p = (sessions_are_sound p.history).hand_within

pub operated_label : (columns : ℕ → Columns) (w : ℕ) (o : Operation) (s : Session) → (after_operation columns w o s).label ≡ s.label
operated_label columns w operation.Finish s = refl
operated_label columns w operation.Cancel s = refl
operated_label columns w (operation.Edit e) s = refl
operated_label columns w operation.Previous s = refl
operated_label columns w operation.Next s = refl
operated_label columns w operation.Ignore s = refl

label_kept : (columns : ℕ → Columns) (w : ℕ) (x : Request) (s : Session) → (after columns w x s).label ≡ s.label
label_kept columns w draw s = refl
label_kept columns w (key event) s = operated_label columns w (operation_of event) s
label_kept columns w (paste bytes) s = refl
label_kept columns w (resize v) s = refl

module _ (columns : ℕ → Columns) (w : ℕ) where
  scrolled_in_hand : (s : Session) → Held s → draft_in_hand (scrolled columns w s) ≡ draft (draft_in_hand s).line (clamped columns (room w s) (draft_in_hand s).line (draft_in_hand s).offset)
  scrolled_in_hand s h = get_or-set_same s.drafts s.hand _ empty_draft h

  held_before : (s : Session) → Held (scrolled columns w s) → Held s
  held_before s h = omega (arith, length-set s.drafts s.hand (draft (draft_in_hand s).line (clamped columns (room w s) (draft_in_hand s).line (draft_in_hand s).offset)))

  scrolled_well : (s : Session) → Held (scrolled columns w s) → 5 ≤ room w s → Well columns (scrolled columns w s) w
  scrolled_well s h big =
      subst (λ (d : Draft). WellScrolled columns (room w s) d.line d.offset) (sym (scrolled_in_hand s (held_before s h)))
      (clamp_scrolls_well columns (room w s) (draft_in_hand s).line (draft_in_hand s).offset)

  operated_well : (o : Operation) (s : Session) → Held (after_operation columns w o s) → 5 ≤ room w s → Well columns s w → Well columns (after_operation columns w o s) w
  operated_well operation.Finish s h big well = well
  operated_well operation.Cancel s h big well = well
  operated_well (operation.Edit e) s h big well = scrolled_well (operated columns (operation.Edit e) s) h big
  operated_well operation.Previous s h big well = scrolled_well (operated columns operation.Previous s) h big
  operated_well operation.Next s h big well = scrolled_well (operated columns operation.Next s) h big
  operated_well operation.Ignore s h big well = well

-- an accepted call leaves the draft in hand well scrolled
well_after : (columns : ℕ → Columns) (x : Request) (v : ℕ) (s : Session) → 5 ≤ room (width_after x v) s → Held (after columns (width_after x v) x s)
    → (5 ≤ room v s → Well columns s v) → Well columns (after columns (width_after x v) x s) (width_after x v)
well_after columns draw v s big h well = well big
well_after columns (key event) v s big h well = operated_well columns v (operation_of event) s h big (well big)
well_after columns (paste bytes) v s big h well = scrolled_well columns v (with_draft (inserting (characters bytes) (draft_in_hand s)) s) h big
well_after columns (resize w) v s big h well = scrolled_well columns w s h big

no_letter : (b : Bool) → redraw_if b ≡ action.Letter → ⊥
no_letter true e = cc
no_letter false e = cc

letter_if : (b : Bool) → cond b action.Letter action.Redraw ≡ action.Letter → b ≡ true
letter_if true e = refl
letter_if false e = absurd cc

module _ (columns : ℕ → Columns) (w : ℕ) (s : Session) where
  -- only a character that was typed is a letter
  motion_is_no_letter : (m : Motion) → answer_to_motion columns m (draft_in_hand s) ≡ action.Letter → ⊥
  motion_is_no_letter motion.Left e = no_letter _ e
  motion_is_no_letter motion.Right e = no_letter _ e
  motion_is_no_letter motion.PrevWord e = no_letter _ e
  motion_is_no_letter motion.NextWord e = no_letter _ e
  motion_is_no_letter motion.Start e = cc
  motion_is_no_letter motion.End e = cc

  abbrev pub GoesAlone : ℕ → Type 0
  GoesAlone c = goes_out_alone columns (room w s) c (draft_in_hand s) ≡ true

  pub letter_typed : (o : Operation) → action_of columns w o s ≡ action.Letter → (c : ℕ) × (o ≡ typing c) × GoesAlone c
  letter_typed (operation.Edit (Insert c)) e = (c, refl, letter_if _ e)
  letter_typed (operation.Edit (Remove r)) e = absurd (no_letter _ e)
  letter_typed (operation.Edit (Move m)) e = absurd (motion_is_no_letter m e)
  letter_typed (operation.Edit Transpose) e = absurd (no_letter _ e)
  letter_typed operation.Finish e = absurd cc
  letter_typed operation.Cancel e = absurd cc
  letter_typed operation.Previous e = absurd (no_letter _ e)
  letter_typed operation.Next e = absurd (no_letter _ e)
  letter_typed operation.Ignore e = absurd cc

module _ (columns : ℕ → Columns) (w c : ℕ) (s : Session) where
  abbrev l : Line
  l = (draft_in_hand s).line

  -- what makes a letter go out alone
  record Alone : Type 0 where
    unlabelled : has_label (columns c) ≡ false
    at_end : l.place ≡ length l.text
    free : shown_columns columns (with_inserted (c ∷ []) l) (draft_in_hand s).offset < room w s - margin

  alone : GoesAlone columns w s c → Alone
  alone e =
      let p = both _ _ e in
      let q = both _ _ p.0 in
      record { unlabelled = flipped _ q.0; at_end = eqb-true _ _ q.1; free = ltb-true _ _ p.1 }

  -- it leaves the offset as it was
  letter_in_hand : Held s → Well columns s w → Alone → draft_in_hand (after_operation columns w (typing c) s) ≡ draft (with_inserted (c ∷ []) l) (draft_in_hand s).offset
  letter_in_hand h well a =
      let u = operated columns (typing c) s in
      let d = draft (with_inserted (c ∷ []) l) (draft_in_hand s).offset in
      let n = length-append [] (c ∷ []) in
      let low : min (draft_in_hand s).offset (l.place + 1) ≡ (draft_in_hand s).offset = omega (arith, well.offset_up_to_place) in
      let same : editing columns (Insert c) (draft_in_hand s) ≡ d = ap (draft (with_inserted (c ∷ []) l)) low in
      let hu : Held u = omega (arith, length-set s.drafts s.hand (editing columns (Insert c) (draft_in_hand s))) in
      let e : draft_in_hand u ≡ d = get_or-set_same s.drafts s.hand (editing columns (Insert c) (draft_in_hand s)) empty_draft h ∙ same in
      scrolled_in_hand columns w u hu
      ∙ ap (λ (x : Draft). draft x.line (clamped columns (room w s) x.line x.offset)) e
      ∙ ap (draft d.line) (clamp_keeps_well_scrolled columns (room w s) d.line d.offset (inserted_well columns (room w s) c l d.offset a.at_end well (omega (arith, a.free))))

module _ (columns : ℕ → Columns) (ascii : (c : ℕ) → 0x20 ≤ c → c ≤ 0x7E → columns c ≡ One) (w : ℕ) where
  -- the row is the drawing of the session
  abbrev Drawn : Session → Row → Type 0
  Drawn s r = r ≡ apply_all columns (drawn columns w s) (blank_row w)

  redrawn : (s : Session) (r : Row) → printable s.label ≡ true → 5 ≤ room w s → width_of r ≡ w → Drawn s (apply_all columns (drawn columns w s) r)
  redrawn s r p big e = drawn_same columns ascii w s.label (draft_in_hand s) r (blank_row w) p (omega arith) e (length-replicate w blank_cell)

  module _ (s : Session) (printed : printable s.label ≡ true) (big : 5 ≤ room w s) (held : Held s) (well : Well columns s w) (r : Row) (e : width_of r ≡ w) (before : Drawn s r) where
    letter_drawn : (c : ℕ) → Alone columns w c s → Drawn (after_operation columns w (typing c) s) (with_character (columns c) c r)
    letter_drawn c a =
        ap (with_character (columns c) c) before
        ∙ typed_row columns ascii w s.label printed c (draft_in_hand s).line (draft_in_hand s).offset a.unlabelled a.at_end well.offset_up_to_place (omega (arith, a.free))
        ∙ ap (λ (d : Draft). apply_all columns (drawing columns s.label d w) (blank_row w)) (sym (letter_in_hand columns w c s held well a))

    silent_drawn : (o : Operation) → silent (action_of columns w o s) ≡ true → Drawn (after_operation columns w o s) r
    silent_drawn o q = before ∙ ap (λ (t : Session). apply_all columns (drawn columns w t) (blank_row w)) (sym (unmoved columns w s well o q))

    action_drawn : (o : Operation) (a : DisplayAction) → action_of columns w o s ≡ a → printable (after_operation columns w o s).label ≡ true → 5 ≤ room w (after_operation columns w o s)
        → Drawn (after_operation columns w o s) (apply_all columns (calls_by a o (drawn columns w (after_operation columns w o s))) r)
    action_drawn o action.Nothing q p b = silent_drawn o (ap silent q)
    action_drawn o action.Finish q p b = silent_drawn o (ap silent q)
    action_drawn o action.Cancel q p b = silent_drawn o (ap silent q)
    action_drawn o action.Redraw q p b = redrawn (after_operation columns w o s) r p b e
    action_drawn o action.Letter q p b =
        let t = letter_typed columns w s o q in
        subst (λ (x : Operation). Drawn (after_operation columns w x s) (apply_all columns (calls_by action.Letter x (drawn columns w (after_operation columns w x s))) r)) (sym t.1) (letter_drawn t.0 (alone columns w t.0 s t.2))

seen_refused : (b : Bool) (x : Request) (e : Refusal) → seen b x (Err e) ≡ b
seen_refused true x e = refl
seen_refused false draw e = refl
seen_refused false (key event) e = refl
seen_refused false (paste bytes) e = refl
seen_refused false (resize w) e = refl

seen_before : (b : Bool) (event : _) (r : Reply) → seen b (key event) r ≡ true → b ≡ true
seen_before true event r e = refl
seen_before false event r e = e

module _ (columns : ℕ → Columns) (ascii : (c : ℕ) → 0x20 ≤ c → c ≤ 0x7E → columns c ≡ One) where
  -- an accepted call leaves the drawing of what it leaves of the prompt, unless nothing was drawn before
  row_drawn : (x : Request) (s : Session) (r : Row) (b : Bool) (a : Reply)
      → let w = width_after x (width_of r) in let t = after columns w x s in
      printable s.label ≡ true → printable t.label ≡ true → 5 ≤ room w s → 5 ≤ room w t → Held s
      → (5 ≤ room (width_of r) s → Well columns s (width_of r)) → (b ≡ true → ShowsThePrompt columns s r) → seen b x a ≡ true
      → Drawn columns ascii w t (apply_all columns (glass_calls columns w x s) r)
  row_drawn draw s r b a p p' big big' h well before e = redrawn columns ascii (width_of r) s r p big refl
  row_drawn (key event) s r b a p p' big big' h well before e =
      action_drawn columns ascii (width_of r) s p big h (well big) r refl (before (seen_before b event a e)) (operation_of event) _ refl p' big'
  row_drawn (paste bytes) s r b a p p' big big' h well before e = redrawn columns ascii (width_of r) (after columns (width_of r) (paste bytes) s) r p' big' refl
  row_drawn (resize w) s r b a p p' big big' h well before e = refl

module _ {G : Type 0} (columns : ℕ → Columns) (ascii : (c : ℕ) → 0x20 ≤ c → c ≤ 0x7E → columns c ≡ One) (row : G → Row) (spare : G → ℕ) where
  -- The draft in hand is well scrolled wherever the width has room for it; and once a draw was accepted, the width
  -- has, and the row is the prompt's drawing.
  pub record Good (b : Bool) (p : Prompt) (g : G) : Type 0 where
    pub well : 5 ≤ room (width_of (row g)) (session p) → Well columns (session p) (width_of (row g))
    pub is_drawn : b ≡ true → (5 ≤ room (width_of (row g)) (session p)) × ShowsThePrompt columns (session p) (row g)

  kept_accepted : (b : Bool) (x : Request) (p q : Prompt) (g h : G) (r : Reply) → Good b p g → OneCall columns row spare x p g r q h → refused_now columns row spare x p g ≡ None → Good (seen b x r) q h
  kept_accepted b x p q g h r good call e =
      let s = session p in
      let w = drawn_at columns row spare x g in
      let t = after columns w x s in
      let a = call.accepted e in
      let wide : width_of (row h) ≡ w = ap width_of a.row_after ∙ width_is columns w x s (row g) in
      let label : t.label ≡ s.label = label_kept columns w x s in
      let printed : printable s.label ≡ true = p.titled.2 in
      let n = ready (length s.label) w (spare g) (own_reasons x (length (draft_in_hand s).line.text)) e in
      let big : 5 ≤ room w s = omega (arith, n.wide_enough) in
      let big' : 5 ≤ room w t = subst (λ (z : List ℕ). 5 ≤ w - text_start z) (sym label) big in
      let held : Held t = subst Held a.prompt_after (prompt_held q) in
      let well : Well columns t w = well_after columns x (width_of (row g)) s big held good.well in
      record {
        well = λ _. subst (λ (z : Session). Well columns z (width_of (row h))) (sym a.prompt_after) (subst (λ (v : ℕ). Well columns t v) (sym wide) well);
        is_drawn = λ f. (
          subst (λ (z : Session). 5 ≤ room (width_of (row h)) z) (sym a.prompt_after) (subst (λ (v : ℕ). 5 ≤ room v t) (sym wide) big'),
          a.row_after
              ∙ row_drawn columns ascii x s (row g) b r printed (ap printable label ∙ printed) big big' (prompt_held p) good.well (λ y. (good.is_drawn y).1) f
              ∙ ap (λ (v : ℕ). apply_all columns (drawn columns v t) (blank_row v)) (sym wide)
              ∙ ap (λ (z : Session). apply_all columns (drawn columns (width_of (row h)) z) (blank_row (width_of (row h)))) (sym a.prompt_after),
        );
      }

  kept_refused : (b : Bool) (x : Request) (p q : Prompt) (g h : G) (r : Reply) → Good b p g → (e : Refusal) → r ≡ Err e → q ≡ p → h ≡ g → Good (seen b x r) q h
  kept_refused b x p q g h r good e t u v =
      subst (λ (z : G). Good (seen b x r) q z) (sym v)
      (subst (λ (z : Prompt). Good (seen b x r) z g) (sym u)
      (subst (λ (z : Bool). Good z p g) (sym (ap (seen b x) t ∙ seen_refused b x e)) good))

  -- one call keeps it
  pub kept : (b : Bool) (x : Request) (p q : Prompt) (g h : G) (r : Reply) → Good b p g → OneCall columns row spare x p g r q h → Good (seen b x r) q h
  kept b x p q g h r good call =
      ⊎_elim
      (λ (e : refused_now columns row spare x p g ≡ None). kept_accepted b x p q g h r good call e)
      (λ e. let a = call.refused e.0 e.1 in kept_refused b x p q g h r good e.0 a.told_why a.same_prompt a.same_glass)
      (decided (refused_now columns row spare x p g))

  drawn_now : (p : Prompt) (g : G) → Good true p g → ShowsThePrompt columns (session p) (row g)
  drawn_now p g good = (good.is_drawn refl).1

  sight_now : (p : Prompt) (g : G) → Good true p g → CursorInSight columns (session p).label (draft_in_hand (session p)) (row g)
  sight_now p g good =
      let d = good.is_drawn refl in
      sight columns ascii (width_of (row g)) (session p).label p.titled.2 (draft_in_hand (session p)) (sound_in_hand p).place_up_to_end (omega (arith, d.0)) (good.well d.0) (row g) refl d.1

  width_now : (x : Request) (p q : Prompt) (g h : G) (r : Reply) → OneCall columns row spare x p g r q h → refused_now columns row spare x p g ≡ None → width_of (row h) ≡ drawn_at columns row spare x g
  width_now x p q g h r call e = ap width_of (call.accepted e).row_after ∙ width_is columns (drawn_at columns row spare x g) x (session p) (row g)

  -- at the start the draft in hand is empty
  empty_in_hand : (label : List ℕ) (texts : List (List ℕ)) → draft_in_hand (newly_opened label texts) ≡ empty_draft
  empty_in_hand label texts =
      let ds = map (λ (t : List ℕ). draft (line t (length t)) 0) texts in
      ap (λ (n : ℕ). get_or (ds ++ (empty_draft ∷ [])) n empty_draft) (sym (length-map texts (λ (t : List ℕ). draft (line t (length t)) 0)))
      ∙ get_or-append_seam ds empty_draft [] empty_draft

  good_at_first : (p : Prompt) (g : G) (label : List ℕ) (texts : List (List ℕ)) → session p ≡ newly_opened label texts → Good false p g
  good_at_first p g label texts e = record {
    well = λ big. subst (λ (d : Draft). WellScrolled columns (room (width_of (row g)) (session p)) d.line d.offset) (sym (ap draft_in_hand e ∙ empty_in_hand label texts))
        (record { offset_up_to_place = omega arith; margin_on_the_right = omega arith; no_further_than_needed = inl refl });
    is_drawn = λ f. absurd cc;
  }

  opened_lines : (texts : List (List ℕ)) → map (λ (d : Draft). d.line) (map (λ (t : List ℕ). draft (line t (length t)) 0) texts ++ (empty_draft ∷ [])) ≡ map (λ (t : List ℕ). line t (length t)) texts ++ (empty_line ∷ [])
  opened_lines [] = refl
  opened_lines (t ∷ ts) = ap (λ (ls : List Line). line t (length t) ∷ ls) (opened_lines ts)

  ledger_at_first : (p : Prompt) (label : List ℕ) (texts : List (List ℕ)) → session p ≡ newly_opened label texts → ledger (session p) ≡ opened texts
  ledger_at_first p label texts e = ap ledger e ∙ ap (λ (ls : List Line). record { lines = ls; hand = length texts }) (opened_lines texts)

  -- whatever texts it opened with
  pub promise : {p q : Prompt} {g h : G} {xs : List Request} {rs : List Reply} → Run columns row spare p g xs rs q h → (label : List ℕ) (texts : List (List ℕ)) → session p ≡ newly_opened label texts
      → RowShowsTheDraft columns row spare texts xs rs p g q h
  promise {p = p} {g = g} run label texts e =
      row_shows_the_draft columns row spare Good kept drawn_now sight_now width_now texts run (good_at_first p g label texts e) (ledger_at_first p label texts e)

  pub session_promise : {p q : Prompt} {g h : G} {xs : List Request} {rs : List Reply} → Run columns row spare p g xs rs q h → (label history : List ℕ) → session p ≡ opened_with label history
      → SessionShowsTheDraft columns row spare label history xs rs g q h
  session_promise {p = p} run label history e = record {
    opened = p;
    newly_opened = e;
    row_shows_the_draft = promise run label (remembered_texts history) e;
  }
