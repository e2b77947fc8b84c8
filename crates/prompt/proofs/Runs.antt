-- From single calls to whole runs.
use Rattle.std.proofs.Common.{◌≡◌, ℕ, zero, suc, ◌+◌, ◌<◌, ◌≤◌, Bool, true, false, ◌⊎◌, List, [], ◌∷◌, ◌++◌, map, length, get_or, take, drop, set, Some, None, Option, sym, refl, ap, ◌∙◌, subst, inl, inr, ⊎_elim, arith, Ok, Err}
use Rattle.std.proofs.lemmas.List.{drop-drop, drop-set-lt, take_more, take_more_set, map-append}
use Rattle.font.specs.declared.Columns.{Columns}
use Rattle.glass.specs.Row.{Row, width_of}
use Rattle.prompt.specs.declared.state.Prompt.{Prompt}
use Rattle.prompt.specs.declared.session.Call.{Call}
use Rattle.prompt.specs.Requests.{Request, draw, key, paste, resize, request, was_refused, Reply}
use Rattle.prompt.specs.Ledger.{Ledger, opened, step, fed}
use Rattle.prompt.specs.Session.{Session, session, draft_in_hand, ledger, answer, refused_now, drawn_at, OneCall}
use Rattle.prompt.specs.Runs.{Run, none, next}
use Rattle.prompt.specs.Promise.{ShowsThePrompt, AcceptedDraw, refusals, RowShowsTheDraft}
use Rattle.drawing.specs.Sight.{CursorInSight}
use Rattle.prompt.proofs.Agrees.{ledger_agrees}

pub decided : {A : Type 0} (o : Option A) → (o ≡ None) ⊎ ((e : A) × (o ≡ Some e))
decided None = inl refl
decided (Some e) = inr (e, refl)

-- an accepted draw makes it true, and it stays so
abbrev pub seen : Bool → Request → Reply → Bool
seen true x r = true
seen false draw (Ok a) = true
seen false draw (Err e) = false
seen false (key event) r = false
seen false (paste bytes) r = false
seen false (resize w) r = false

seen_draw : (b : Bool) (r : Reply) → was_refused r ≡ false → seen b draw r ≡ true
seen_draw true r e = refl
seen_draw false (Ok a) e = refl
seen_draw false (Err f) e = sym e

still : (b : Bool) (x : Request) (r : Reply) → b ≡ true → seen b x r ≡ true
still true x r e = refl
still false draw (Ok a) e = refl
still false draw (Err f) e = e
still false (key event) r e = e
still false (paste bytes) r e = e
still false (resize w) r e = e

answer_accepts : (columns : ℕ → Columns) (w : ℕ) (x : Request) (s : Session) → was_refused (answer columns w x s) ≡ false
answer_accepts columns w draw s = refl
answer_accepts columns w (key event) s = refl
answer_accepts columns w (paste bytes) s = refl
answer_accepts columns w (resize v) s = refl

module _ {G : Type 0} (columns : ℕ → Columns) (row : G → Row) (spare : G → ℕ) where
  pub snoc : {p q z : Prompt} {g h k : G} {xs : List Request} {rs : List Reply} (x : Request) (r : Reply)
      → Run columns row spare p g xs rs q h → OneCall columns row spare x q h r z k → Run columns row spare p g (xs ++ (x ∷ [])) (rs ++ (r ∷ [])) z k
  snoc x r none s = next s none
  snoc x r (next t run) s = next t (snoc x r run s)

  -- what the first i calls leave
  states : {p q : Prompt} {g h : G} {xs : List Request} {rs : List Reply} → Run columns row spare p g xs rs q h → ℕ → Prompt × G
  states {p = p} {g = g} none i = (p, g)
  states {p = p} {g = g} (next s run) zero = (p, g)
  states (next s run) (suc i) = states run i

  first : {p q : Prompt} {g h : G} {xs : List Request} {rs : List Reply} (run : Run columns row spare p g xs rs q h) → states run 0 ≡ (p, g)
  unfolding states
  first none = refl
  first (next s run) = refl

  last : {p q : Prompt} {g h : G} {xs : List Request} {rs : List Reply} (run : Run columns row spare p g xs rs q h) → states run (length xs) ≡ (q, h)
  unfolding states
  last none = refl
  last (next s run) = last run

  -- each call of a run is one call
  each : {p q : Prompt} {g h : G} {xs : List Request} {rs : List Reply} (run : Run columns row spare p g xs rs q h) (i : ℕ) → i < length xs
      → OneCall columns row spare (get_or xs i draw) (states run i).0 (states run i).1 (get_or rs i (Ok None)) (states run (suc i)).0 (states run (suc i)).1
  unfolding states
  each none i l = absurd (omega arith)
  each (next {p = p} {g = g} {x = x} {r = r} s run) zero l = subst (λ (z : Prompt × G). OneCall columns row spare x p g r z.0 z.1) (sym (first run)) s
  each (next s run) (suc i) l = each run i (omega arith)

  entered_by : (x : Request) (p q : Prompt) (g h : G) (r : Reply) → OneCall columns row spare x p g r q h → ledger (session q) ≡ step columns x (was_refused r) (ledger (session p))
  entered_by x p q g h r s =
      ⊎_elim
      (λ (e : refused_now columns row spare x p g ≡ None).
      let a = s.accepted e in
      let f : was_refused r ≡ false = ap was_refused a.answered ∙ answer_accepts columns (drawn_at columns row spare x g) x (session p) in
      ap ledger a.prompt_after ∙ ledger_agrees columns (drawn_at columns row spare x g) x (session p) ∙ ap (λ (b : Bool). step columns x b (ledger (session p))) (sym f))
      (λ e. let a = s.refused e.0 e.1 in
      let f : was_refused r ≡ true = ap was_refused a.told_why in
      ap (λ (z : Prompt). ledger (session z)) a.same_prompt ∙ ap (λ (b : Bool). step columns x b (ledger (session p))) (sym f))
      (decided (refused_now columns row spare x p g))

  kept_ledger : {p q : Prompt} {g h : G} {xs : List Request} {rs : List Reply} (run : Run columns row spare p g xs rs q h) (b : Ledger) → ledger (session p) ≡ b → (j : ℕ) → j ≤ length xs
      → ledger (session (states run j).0) ≡ fed columns b (refusals (take j xs) (take j rs))
  unfolding states
  kept_ledger none b e zero l = e
  kept_ledger none b e (suc j) l = absurd (omega arith)
  kept_ledger (next s run) b e zero l = e
  kept_ledger (next {p = p} {q = q} {g = g} {h = h} {x = x} {r = r} s run) b e (suc j) l =
      kept_ledger run (step columns x (was_refused r) b) (entered_by x p q g h r s ∙ ap (step columns x (was_refused r)) e) j (omega arith)

  -- what has to be kept from call to call: `Good b p g`, where b says whether a draw was accepted
  module _ (Good : Bool → Prompt → G → Type 0)
      (kept : (b : Bool) (x : Request) (p q : Prompt) (g h : G) (r : Reply) → Good b p g → OneCall columns row spare x p g r q h → Good (seen b x r) q h)
      (is_drawn : (p : Prompt) (g : G) → Good true p g → ShowsThePrompt columns (session p) (row g))
      (in-sight : (p : Prompt) (g : G) → Good true p g → CursorInSight columns (session p).label (draft_in_hand (session p)) (row g))
      (width : (x : Request) (p q : Prompt) (g h : G) (r : Reply) → OneCall columns row spare x p g r q h → refused_now columns row spare x p g ≡ None → width_of (row h) ≡ drawn_at columns row spare x g) where
    good_on : {p q : Prompt} {g h : G} {xs : List Request} {rs : List Reply} (run : Run columns row spare p g xs rs q h) (b : Bool) → b ≡ true → Good b p g → (j : ℕ) → j ≤ length xs → Good true (states run j).0 (states run j).1
    unfolding states
    good_on {p = p} {g = g} none b e s zero l = subst (λ v. Good v p g) e s
    good_on none b e s (suc j) l = absurd (omega arith)
    good_on {p = p} {g = g} (next t run) b e s zero l = subst (λ v. Good v p g) e s
    good_on (next {p = p} {q = q} {g = g} {h = h} {x = x} {r = r} t run) b e s (suc j) l = good_on run (seen b x r) (still b x r e) (kept b x p q g h r s t) j (omega arith)

    good_from : {p q : Prompt} {g h : G} {xs : List Request} {rs : List Reply} (run : Run columns row spare p g xs rs q h) (b : Bool) → Good b p g → (i j : ℕ) → AcceptedDraw xs rs i → i < j → j ≤ length xs → Good true (states run j).0 (states run j).1
    unfolding states
    good_from none b s i j d l m = absurd (omega arith)
    good_from (next t run) b s i zero d l m = absurd (omega arith)
    good_from (next {p = p} {q = q} {g = g} {h = h} {x = x} {r = r} t run) b s zero (suc j) d l m =
        good_on run (seen b x r) (ap (λ v. seen b v r) d.is_draw ∙ seen_draw b r d.is_accepted) (kept b x p q g h r s t) j (omega arith)
    good_from (next {p = p} {q = q} {g = g} {h = h} {x = x} {r = r} t run) b s (suc i) (suc j) d l m =
        good_from run (seen b x r) (kept b x p q g h r s t) i j (record { is_a_call = omega (arith, d.is_a_call); is_draw = d.is_draw; is_accepted = d.is_accepted }) (omega arith) (omega arith)

    pub row_shows_the_draft : {p q : Prompt} {g h : G} {xs : List Request} {rs : List Reply} (texts : List (List ℕ)) → Run columns row spare p g xs rs q h → Good false p g → ledger (session p) ≡ opened texts
        → RowShowsTheDraft columns row spare texts xs rs p g q h
    row_shows_the_draft texts run s e = record {
      prompt_after = λ i. (states run i).0;
      glass_after = λ i. (states run i).1;
      at_first = (ap (λ z. z.0) (first run), ap (λ z. z.1) (first run));
      at_last = (ap (λ z. z.0) (last run), ap (λ z. z.1) (last run));
      refused_by_the_table = λ i l f t. let a = (each run i l).refused f t in (a.told_why, a.same_prompt, a.same_glass);
      else_answered_by_the_rules = λ i l t. (((each run i l).accepted t).answered, width _ _ _ _ _ _ (each run i l) t);
      row_is_drawing = λ i j d l m. is_drawn _ _ (good_from run false s i j d l m);
      cursor_in_sight = λ i j d l m. in-sight _ _ (good_from run false s i j d l m);
      drafts_are_ledger = kept_ledger run (opened texts) e;
    }

pub rest_kept : {A : Type 0} (xs ys : List A) (i : ℕ) (v : A) → drop i xs ≡ drop i ys → drop (i + 1) (set xs i v) ≡ drop (i + 1) ys
rest_kept xs ys i v e = drop-set-lt (i + 1) xs i v (omega arith) ∙ sym (drop-drop 1 i xs) ∙ ap (drop 1) e ∙ drop-drop 1 i ys

module _ {G : Type 0} (columns : ℕ → Columns) (row : G → Row) (spare : G → ℕ) where
  pub again : {p q z : Prompt} {g h k : G} (cs : List Call) (rs : List Reply) (i : ℕ) (d : Call) (r : Reply) → i < length cs → i < length rs
      → Run columns row spare p g (map request (take i cs)) (take i rs) q h
      → OneCall columns row spare (request (get_or cs i d)) q h r z k
      → Run columns row spare p g (map request (take (i + 1) cs)) (take (i + 1) (set rs i r)) z k
  again cs rs i d r hc hr run s =
      rw (take_more cs i d hc, take_more_set rs i r hr, map-append request (take i cs) (get_or cs i d ∷ [])) (snoc columns row spare (request (get_or cs i d)) r run s)
