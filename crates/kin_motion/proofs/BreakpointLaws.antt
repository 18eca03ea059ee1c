-- Two upper chains have one list of breakpoints, and it is the computed one.
use Rattle.std.proofs.Common.{◌≡◌, ◌⊎◌, inl, inr, refl, sym, ap, ap₂, ◌∙◌, subst, List, [], ◌∷◌, ℕ, Bool, true, false, cond, ◌&&◌}
use Rattle.std.specs.Prelude.{Contains}
use Rattle.std.proofs.lemmas.Bool.{and_parts, and_from}
use Rattle.kin_algebra.proofs.Members.{contains_none, contains_head, contains_tail, contains_cases}
use Rattle.kin_algebra.specs.declared.sign.Sign.{Sign}
use Rattle.kin_algebra.specs.declared.sign.Sign.TheVariants.{Minus, Zero, Plus}
use Rattle.kin_algebra.specs.Signs.{opposite_of, SumMayBe}
use Rattle.kin_motion.specs.Numbers.{IsChain}
use Rattle.kin_motion.specs.Sets.{AreDistinct}
use Rattle.kin_motion.specs.Scene.{Scene, x_sign}
use Rattle.kin_motion.specs.Chains.{is_plus, is_left, IsUpperChain}
use Rattle.kin_motion.specs.Merges.{Half.{A, B}, Half, Breakpoint, is_of, breakpoints_of, slope_form, goes_first, is_placed_before, IsBreakpointList, put_before, merged, breakpoint_list, own_of}
use Rattle.kin_motion.specs.Laws.{HasSlopeLaws, HasTurnLaws}
use Rattle.kin_motion.proofs.SetLaws.{filter-sound, filter-complete}
use Rattle.kin_motion.proofs.ListChains.{chain_tail, chain_first, chain_distinct, same_list}
use Rattle.kin_motion.proofs.MergeLaws.{Falls, upper_falls}
use Rattle.kin_motion.proofs.ChainLaws.{plus_from}

-- ---- signs
placed_through : (t u r : Sign) (x y z : Half) → SumMayBe t u r → goes_first t x y ≡ true → goes_first u y z ≡ true → goes_first r x z ≡ true
placed_through Plus Plus r x y z sum e f = ap (λ q. goes_first q x z) sum
placed_through Plus Zero r x y z sum e f = ap (λ q. goes_first q x z) sum
placed_through Plus Minus r x y z sum e f = absurd cc
placed_through Zero Plus r x y z sum e f = ap (λ q. goes_first q x z) sum
placed_through Zero Minus r x y z sum e f = absurd cc
placed_through Zero Zero r A A z sum e f = absurd cc
placed_through Zero Zero r A B z sum e f = absurd cc
placed_through Zero Zero r B y z sum e f = absurd cc
placed_through Minus u r x y z sum e f = absurd cc

not_itself : (t : Sign) (x : Half) → t ≡ opposite_of t → goes_first t x x ≡ true → ⊥
not_itself Plus x o e = absurd cc
not_itself Minus x o e = absurd cc
not_itself Zero A o e = absurd cc
not_itself Zero B o e = absurd cc

other_way : (t : Sign) → goes_first t A B ≡ false → goes_first (opposite_of t) B A ≡ true
other_way Plus e = absurd cc
other_way Zero e = absurd cc
other_way Minus e = refl

-- ---- the breakpoints of one half
pub own_half : (h : Half) (a : List ℕ) (e : Breakpoint) → Contains (breakpoints_of h a) e → e.half ≡ h
own_half h [] e c = absurd (contains_none e c)
own_half h (i ∷ []) e c = absurd (contains_none e c)
own_half h (i ∷ j ∷ ps) e c = at (contains_cases (record { half = h; left = i; right = j }) e (breakpoints_of h (j ∷ ps)) c) (own_half h (j ∷ ps) e)
  where
    at : (record { half = h; left = i; right = j } ≡ e) ⊎ Contains (breakpoints_of h (j ∷ ps)) e → (Contains (breakpoints_of h (j ∷ ps)) e → e.half ≡ h) → e.half ≡ h
    at (inl f) rest = sym (ap (λ (x : Breakpoint). x.half) f)
    at (inr k) rest = rest k

pub itself : (h : Half) → is_of h h ≡ true
itself A = refl
itself B = refl

-- with one more in front
pub own_with : (h g : Half) (e : Breakpoint) (es : List Breakpoint) → e.half ≡ g → own_of h (e ∷ es) ≡ cond (is_of h g) (e ∷ own_of h es) (own_of h es)
own_with h g e es q = ap (λ t. cond (is_of h t) (e ∷ own_of h es) (own_of h es)) q

own_all : (h : Half) (es : List Breakpoint) → ((e : Breakpoint) → Contains es e → e.half ≡ h) → own_of h es ≡ es
own_all h [] all = refl
own_all h (e ∷ es) all =
    own_with h h e es (all e (contains_head e es)) ∙ ap (λ t. cond t (e ∷ own_of h es) (own_of h es)) (itself h)
    ∙ ap (λ (fs : List Breakpoint). e ∷ fs) (own_all h es (λ f c. all f (contains_tail e f es c)))

own_none : (h g : Half) (es : List Breakpoint) → is_of h g ≡ false → ((e : Breakpoint) → Contains es e → e.half ≡ g) → own_of h es ≡ []
own_none h g [] n all = refl
own_none h g (e ∷ es) n all =
    own_with h g e es (all e (contains_head e es)) ∙ ap (λ t. cond t (e ∷ own_of h es) (own_of h es)) n
    ∙ own_none h g es n (λ f c. all f (contains_tail e f es c))

pub own_has : (h : Half) (es : List Breakpoint) (e : Breakpoint) → Contains es e → e.half ≡ h → Contains (own_of h es) e
own_has h es e c q = filter-complete (λ (f : Breakpoint). is_of h f.half) es e c (ap (is_of h) q ∙ itself h)

pub own_in : (h : Half) (es : List Breakpoint) (e : Breakpoint) → Contains (own_of h es) e → Contains es e
own_in h es e c = (filter-sound (λ (f : Breakpoint). is_of h f.half) es e c).0

pub weaker_chain : {X : Type 0} (p q : X → X → Bool) → ((x y : X) → p x y ≡ true → q x y ≡ true) → (xs : List X) → IsChain p xs → IsChain q xs
weaker_chain {X} p q f [] c = tt
weaker_chain {X} p q f (x ∷ []) c = tt
weaker_chain {X} p q f (x ∷ y ∷ ys) c = (f x y c.0, weaker_chain p q f (y ∷ ys) c.1)

module _ (s : Scene) (slopes : HasSlopeLaws s) where
  abbrev pub goes_right : Breakpoint → Bool
  goes_right e = is_left s e.left e.right

  -- e is placed before f, and both go to the right
  abbrev pub comes : Breakpoint → Breakpoint → Bool
  comes e f = (goes_right e && goes_right f) && is_placed_before s e f

  pub right_signs : (e f : Breakpoint) → comes e f ≡ true → (x_sign s e.left e.right ≡ Plus) × (x_sign s f.left f.right ≡ Plus) × (is_placed_before s e f ≡ true)
  right_signs e f c =
      let h = and_parts (goes_right e && goes_right f) (is_placed_before s e f) c in
      let g = and_parts (goes_right e) (goes_right f) h.0 in
      (plus_from g.0, plus_from g.1, h.1)

  pub comes_through : (e f g : Breakpoint) → comes e f ≡ true → comes f g ≡ true → comes e g ≡ true
  comes_through e f g c d =
      let p = right_signs e f c in
      let q = right_signs f g d in
      and_from (goes_right e && goes_right g) (is_placed_before s e g)
      (and_from (goes_right e) (goes_right g) (ap is_plus p.0) (ap is_plus q.1))
      (placed_through (s.sign (slope_form e f)) (s.sign (slope_form f g)) (s.sign (slope_form e g)) e.half f.half g.half (slopes.through e.left e.right f.left f.right g.left g.right p.0 p.1 q.1) p.2 q.2)

  pub comes_never : (e : Breakpoint) → comes e e ≡ true → ⊥
  comes_never e c = not_itself (s.sign (slope_form e e)) e.half (slopes.opposite e.left e.right e.left e.right) (right_signs e e c).2

  -- the breakpoints of an upper chain come one before the other
  pub breakpoints_come : (h : Half) (a : List ℕ) → IsChain (is_left s) a → Falls s a → IsChain comes (breakpoints_of h a)
  breakpoints_come h [] c f = tt
  breakpoints_come h (i ∷ []) c f = tt
  breakpoints_come h (i ∷ j ∷ []) c f = tt
  breakpoints_come h (i ∷ j ∷ k ∷ ps) c f =
      (and_from (is_left s i j && is_left s j k) _ (and_from (is_left s i j) (is_left s j k) c.0 c.1.0) (ap (λ t. goes_first t h h) f.0), breakpoints_come h (j ∷ k ∷ ps) c.1 f.1)

  pub all_right : (h : Half) (a : List ℕ) → IsChain (is_left s) a → (e : Breakpoint) → Contains (breakpoints_of h a) e → goes_right e ≡ true
  all_right h [] c e k = absurd (contains_none e k)
  all_right h (i ∷ []) c e k = absurd (contains_none e k)
  all_right h (i ∷ j ∷ ps) c e k = at (contains_cases (record { half = h; left = i; right = j }) e (breakpoints_of h (j ∷ ps)) k) (all_right h (j ∷ ps) c.1 e)
    where
      at : (record { half = h; left = i; right = j } ≡ e) ⊎ Contains (breakpoints_of h (j ∷ ps)) e → (Contains (breakpoints_of h (j ∷ ps)) e → goes_right e ≡ true) → goes_right e ≡ true
      at (inl f) rest = sym (ap goes_right f) ∙ c.0
      at (inr l) rest = rest l

  -- ---- a breakpoint of A put in before all others of A
  module _ (e : Breakpoint) (of_a : e.half ≡ A) where
    abbrev IsFirst : List Breakpoint → Type 0
    IsFirst l = (f : Breakpoint) → Contains l f → f.half ≡ A → is_placed_before s e f ≡ true

    later_first : (f : Breakpoint) (l : List Breakpoint) → IsFirst (f ∷ l) → IsFirst l
    later_first f l first g c = first g (contains_tail f g l c)

    -- what e isn't placed before is of B, and placed before e
    is_b : (f : Breakpoint) → (f.half ≡ A → is_placed_before s e f ≡ true) → is_placed_before s e f ≡ false → (f.half ≡ B) × (is_placed_before s f e ≡ true)
    is_b f first n = at f.half refl
      where
        at : (h : Half) → f.half ≡ h → (f.half ≡ B) × (is_placed_before s f e ≡ true)
        at A q = absurd (let k : true ≡ false = sym (first q) ∙ n in cc)
        at B q = (
          q,
          (
              ap₂ (λ x y. goes_first (s.sign (slope_form f e)) x y) q of_a
              ∙ ap (λ t. goes_first t B A) (slopes.opposite e.left e.right f.left f.right)
              ∙ other_way (s.sign (slope_form e f)) (sym (ap₂ (λ x y. goes_first (s.sign (slope_form e f)) x y) of_a q) ∙ n)
              ),
        )

    put_chain : (l : List Breakpoint) → IsFirst l → IsChain (is_placed_before s) l → IsChain (is_placed_before s) (put_before s e l)
    put_chain [] first c = tt
    put_chain (f ∷ []) first c = at (is_placed_before s e f) refl
      where
        at : (b : Bool) → is_placed_before s e f ≡ b → IsChain (is_placed_before s) (cond b (e ∷ f ∷ []) (f ∷ e ∷ []))
        at true q = (q, tt)
        at false q = ((is_b f (first f (contains_head f [])) q).1, tt)
    put_chain (f ∷ g ∷ l) first c = at (is_placed_before s e f) refl (is_placed_before s e g) refl (put_chain (g ∷ l) (later_first f (g ∷ l) first) c.1)
      where
        at : (b : Bool) → is_placed_before s e f ≡ b → (d : Bool) → is_placed_before s e g ≡ d → IsChain (is_placed_before s) (cond d (e ∷ g ∷ l) (g ∷ put_before s e l))
            → IsChain (is_placed_before s) (cond b (e ∷ f ∷ g ∷ l) (f ∷ cond d (e ∷ g ∷ l) (g ∷ put_before s e l)))
        at true q d r rest = (q, c)
        at false q true r rest = ((is_b f (first f (contains_head f (g ∷ l))) q).1, rest)
        at false q false r rest = (c.0, rest)

    put_own_a : (l : List Breakpoint) → IsFirst l → own_of A (put_before s e l) ≡ e ∷ own_of A l
    put_own_a [] first = own_with A A e [] of_a
    put_own_a (f ∷ l) first = at (is_placed_before s e f) refl (put_own_a l (later_first f l first))
      where
        at : (b : Bool) → is_placed_before s e f ≡ b → own_of A (put_before s e l) ≡ e ∷ own_of A l → own_of A (cond b (e ∷ f ∷ l) (f ∷ put_before s e l)) ≡ e ∷ own_of A (f ∷ l)
        at true q rest = own_with A A e (f ∷ l) of_a
        at false q rest =
            let h = (is_b f (first f (contains_head f l)) q).0 in
            own_with A B f (put_before s e l) h ∙ rest ∙ ap (λ (fs : List Breakpoint). e ∷ fs) (sym (own_with A B f l h))

    put_own_b : (l : List Breakpoint) → IsFirst l → own_of B (put_before s e l) ≡ own_of B l
    put_own_b [] first = own_with B A e [] of_a
    put_own_b (f ∷ l) first = at (is_placed_before s e f) refl (put_own_b l (later_first f l first))
      where
        at : (b : Bool) → is_placed_before s e f ≡ b → own_of B (put_before s e l) ≡ own_of B l → own_of B (cond b (e ∷ f ∷ l) (f ∷ put_before s e l)) ≡ own_of B (f ∷ l)
        at true q rest = own_with B A e (f ∷ l) of_a
        at false q rest =
            let h = (is_b f (first f (contains_head f l)) q).0 in
            own_with B B f (put_before s e l) h ∙ ap (λ (fs : List Breakpoint). f ∷ fs) rest ∙ sym (own_with B B f l h)

  -- ---- the computed list
  pub merged_right : (es fs : List Breakpoint) → ((e : Breakpoint) → Contains es e → e.half ≡ A) → ((f : Breakpoint) → Contains fs f → f.half ≡ B) → IsChain comes es → IsChain (is_placed_before s) fs
      → IsChain (is_placed_before s) (merged s es fs) × (own_of A (merged s es fs) ≡ es) × (own_of B (merged s es fs) ≡ fs)
  merged_right [] fs all_a all_b c d = (d, own_none A B fs refl all_b, own_all B fs all_b)
  merged_right (e ∷ es) fs all_a all_b c d =
      let rest = merged_right es fs (λ f k. all_a f (contains_tail e f es k)) all_b (chain_tail comes e es c) d in
      let of_a = all_a e (contains_head e es) in
      let first : IsFirst e of_a (merged s es fs) = λ f k h. (right_signs e f (chain_first comes comes_through e es c f (in_rest rest.1 f k h))).2 in
      (put_chain e of_a (merged s es fs) first rest.0, put_own_a e of_a (merged s es fs) first ∙ ap (λ (gs : List Breakpoint). e ∷ gs) rest.1, put_own_b e of_a (merged s es fs) first ∙ rest.2)
    where
      in_rest : own_of A (merged s es fs) ≡ es → (f : Breakpoint) → Contains (merged s es fs) f → f.half ≡ A → Contains es f
      in_rest q f k h = subst (λ (gs : List Breakpoint). Contains gs f) q (own_has A (merged s es fs) f k h)

  -- the computed list is the list of breakpoints
  pub breakpoints_agree : HasTurnLaws s → (left right a b : List ℕ) → IsUpperChain s left a → IsUpperChain s right b → IsBreakpointList s a b (breakpoint_list s a b)
  breakpoints_agree turns left right a b ua ub =
      let m = merged_right (breakpoints_of A a) (breakpoints_of B b) (own_half A a) (own_half B b)
      (breakpoints_come A a ua.rising (upper_falls s turns left a ua))
      (weaker_chain comes (is_placed_before s) (λ e f c. (right_signs e f c).2) (breakpoints_of B b) (breakpoints_come B b ub.rising (upper_falls s turns right b ub))) in
      record { of_a = m.1; of_b = m.2; falling = m.0 }

  -- ---- uniqueness
  pub members_of : (a b : List ℕ) (es : List Breakpoint) → IsBreakpointList s a b es → (e : Breakpoint) → Contains es e → Contains (breakpoints_of A a) e ⊎ Contains (breakpoints_of B b) e
  members_of a b es l e c = at e.half refl
    where
      at : (h : Half) → e.half ≡ h → Contains (breakpoints_of A a) e ⊎ Contains (breakpoints_of B b) e
      at A q = inl (subst (λ (gs : List Breakpoint). Contains gs e) l.of_a (own_has A es e c q))
      at B q = inr (subst (λ (gs : List Breakpoint). Contains gs e) l.of_b (own_has B es e c q))

  member_from : (a b : List ℕ) (es : List Breakpoint) → IsBreakpointList s a b es → (e : Breakpoint) → Contains (breakpoints_of A a) e ⊎ Contains (breakpoints_of B b) e → Contains es e
  member_from a b es l e (inl c) = own_in A es e (subst (λ (gs : List Breakpoint). Contains gs e) (sym l.of_a) c)
  member_from a b es l e (inr c) = own_in B es e (subst (λ (gs : List Breakpoint). Contains gs e) (sym l.of_b) c)

  pub list_comes : (es : List Breakpoint) → ((e : Breakpoint) → Contains es e → goes_right e ≡ true) → IsChain (is_placed_before s) es → IsChain comes es
  list_comes [] all c = tt
  list_comes (e ∷ []) all c = tt
  list_comes (e ∷ f ∷ es) all c = (
    and_from (goes_right e && goes_right f) (is_placed_before s e f) (and_from (goes_right e) (goes_right f) (all e (contains_head e (f ∷ es))) (all f (contains_tail e f (f ∷ es) (contains_head f es)))) c.0,
    list_comes (f ∷ es) (λ g k. all g (contains_tail e g (f ∷ es) k)) c.1,
  )

  pub chain_of_list : (a b : List ℕ) (es : List Breakpoint) → IsChain (is_left s) a → IsChain (is_left s) b → IsBreakpointList s a b es → IsChain comes es
  chain_of_list a b es ca cb l = list_comes es (λ e c. right e (members_of a b es l e c)) l.falling
    where
      right : (e : Breakpoint) → Contains (breakpoints_of A a) e ⊎ Contains (breakpoints_of B b) e → goes_right e ≡ true
      right e (inl c) = all_right A a ca e c
      right e (inr c) = all_right B b cb e c

  pub one_breakpoint_list : (a b : List ℕ) (es fs : List Breakpoint) → IsChain (is_left s) a → IsChain (is_left s) b → IsBreakpointList s a b es → IsBreakpointList s a b fs → es ≡ fs
  one_breakpoint_list a b es fs ca cb l m =
      same_list comes comes_never comes_through es fs (chain_of_list a b es ca cb l) (chain_of_list a b fs ca cb m)
      (λ e c. member_from a b fs m e (members_of a b es l e c)) (λ e c. member_from a b es l e (members_of a b fs m e c))

  -- no breakpoint stands twice
  pub list_distinct : (es : List Breakpoint) → IsChain comes es → AreDistinct es
  list_distinct = chain_distinct comes comes_through comes_never
