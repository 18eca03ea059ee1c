-- Legs by their numbers.
use Rattle.std.proofs.Common.{◌≡◌, ◌≢◌, refl, sym, ap, ◌∙◌, subst, arith, ℕ, zero, suc, ◌-◌, ◌<◌, ◌≤◌, Bool, true, false, cond, ◌&&◌, ◌||◌, not, nat_lt, nat_eq, List, [], ◌∷◌, ◌++◌, length}
use Rattle.std.specs.Prelude.{Option, Some, None, slice_set, slice_index_or, IsSome, IfSome, ◌↔◌}
use Rattle.std.specs.Borrow.{Bor}
use Rattle.std.specs.Option.{option_copied}
use Rattle.std.specs.List.{AllByRecursion}
use Rattle.std.proofs.lemmas.Bool.Decides.{nat_tests}
use Rattle.std.proofs.lemmas.List.{get_or-set_same, get_or-set_other}
use Rattle.kin_motion.specs.Numbers.{put_in}
use Rattle.kin_legs.specs.declared.leg.Leg.{Leg}
use Rattle.kin_legs.specs.Filing.{filed_under}
use Rattle.kin_legs.specs.Planning.{is_earlier, is_of, last, legs_of, without, IsRising}

same : (i n : ℕ) → nat_eq i n ≡ true → i ≡ n
same i n e = grind (arith, nat_tests, e)

apart : (i n : ℕ) → nat_eq i n ≡ false → i ≢ n
apart i n e = grind (arith, nat_tests, e)

pub itself : (i : ℕ) → nat_eq i i ≡ true
itself i = grind (arith, nat_tests)

turned : (i n : ℕ) → nat_eq i n ≡ nat_eq n i
turned i n = grind (arith, nat_tests)

-- one number's queue is written
pub filed_set : (qs : List (List Leg)) (n : ℕ) (q : List Leg) → n < length qs → (i : ℕ) → filed_under i (slice_set qs n q) ≡ cond (nat_eq i n) q (filed_under i qs)
filed_set qs n q h i = at (nat_eq i n) refl
  where
    at : (b : Bool) → nat_eq i n ≡ b → filed_under i (slice_set qs n q) ≡ cond b q (filed_under i qs)
    at true e = ap (λ k. filed_under k (slice_set qs n q)) (same i n e) ∙ get_or-set_same qs n q [] h
    at false e = get_or-set_other qs n i q [] (apart i n e)

-- a number that has a leg has a queue
pub has_queue : (qs : List (List Leg)) (i : ℕ) (l : Leg) (ls : List Leg) → filed_under i qs ≡ l ∷ ls → i < length qs
has_queue [] i l ls h = absurd cc
has_queue (q ∷ qs) zero l ls h = omega arith
has_queue (q ∷ qs) (suc i) l ls h = let rest = has_queue qs i l ls h in omega (arith, rest)

pub rising_behind : (l : Leg) (ls : List Leg) → IsRising (l ∷ ls) → IsRising ls
rising_behind l [] h = tt
rising_behind l (m ∷ ls) h = h.1

-- the first of a number's legs is of that number
pub is_its : (i : ℕ) (ls : List Leg) (l : Leg) (later : List Leg) → legs_of i ls ≡ l ∷ later → l.no ≡ i
is_its i [] l later h = absurd cc
is_its i (m ∷ ls) l later h = go (is_of i m) refl h (is_its i ls l later)
  where
    go : (b : Bool) → is_of i m ≡ b → cond b (m ∷ legs_of i ls) (legs_of i ls) ≡ l ∷ later → (legs_of i ls ≡ l ∷ later → l.no ≡ i) → l.no ≡ i
    go true e f rest = ap (λ (ms : List Leg). no_of l ms) (sym f) ∙ same m.no i e
      where
        no_of : Leg → List Leg → ℕ
        no_of d [] = d.no
        no_of d (x ∷ xs) = x.no
    go false e f rest = rest f

abbrev first_or : Leg → List Leg → Leg
first_or d [] = d
first_or d (l ∷ ls) = l

-- ---- a leg is added
pub at_most : (a b : Leg) → is_earlier a b ≡ true → a.at ≤ b.at
at_most a b h = go (nat_lt a.at b.at) refl (nat_eq a.at b.at) refl h
  where
    go : (p : Bool) → nat_lt a.at b.at ≡ p → (q : Bool) → nat_eq a.at b.at ≡ q → p || (q && nat_lt a.no b.no) ≡ true → a.at ≤ b.at
    go true e q f g = grind (arith, nat_tests, e)
    go false e true f g = grind (arith, nat_tests, f)
    go false e false f g = absurd cc

module _ (leg : Leg) where
  -- from a leg on that begins no earlier none is of the number
  none_later : (ls : List Leg) → AllByRecursion (λ (l : Leg). leg.at ≤ l.at) ls → AllByRecursion (λ (l : Leg). l.no ≡ leg.no → l.at < leg.at) ls → legs_of leg.no ls ≡ []
  none_later [] h k = refl
  none_later (l ∷ ls) h k = go (nat_eq l.no leg.no) refl (none_later ls h.1 k.1)
    where
      go : (b : Bool) → nat_eq l.no leg.no ≡ b → legs_of leg.no ls ≡ [] → cond b (l ∷ legs_of leg.no ls) (legs_of leg.no ls) ≡ []
      go true e rest = absurd (let before = k.0 (same l.no leg.no e) in let from = h.0 in omega (arith, before, from))
      go false e rest = rest

  all_later : (l : Leg) (ls : List Leg) → leg.at ≤ l.at → IsRising (l ∷ ls) → AllByRecursion (λ (m : Leg). leg.at ≤ m.at) (l ∷ ls)
  all_later l [] h rising = (h, tt)
  all_later l (m ∷ ls) h rising = (h, all_later m ls (let next = at_most l m rising.0 in omega (arith, next, h)) rising.1)

  rising_tail : (l : Leg) (ls : List Leg) → IsRising (l ∷ ls) → IsRising ls
  rising_tail l [] h = tt
  rising_tail l (m ∷ ls) h = h.1

  -- the number has it as its last one, and the others have what they had
  legs_put_in : (i : ℕ) (ls : List Leg) → IsRising ls → AllByRecursion (λ (l : Leg). l.no ≡ leg.no → l.at < leg.at) ls → legs_of i (put_in is_earlier leg ls) ≡ cond (nat_eq i leg.no) (legs_of i ls ++ leg ∷ []) (legs_of i ls)
  legs_put_in i [] rising k = ap (λ b. cond b (leg ∷ []) []) (turned leg.no i)
  legs_put_in i (l ∷ ls) rising k = go (is_earlier leg l) refl (legs_put_in i ls (rising_tail l ls rising) k.1)
    where
      here : (b : Bool) → nat_eq i leg.no ≡ b → leg.at ≤ l.at → cond b (leg ∷ legs_of i (l ∷ ls)) (legs_of i (l ∷ ls)) ≡ cond b (legs_of i (l ∷ ls) ++ leg ∷ []) (legs_of i (l ∷ ls))
      here true e h =
          let none : legs_of i (l ∷ ls) ≡ [] = ap (λ n. legs_of n (l ∷ ls)) (same i leg.no e) ∙ none_later (l ∷ ls) (all_later l ls h rising) k in
          ap (λ ms. leg ∷ ms) none ∙ sym (ap (λ ms. ms ++ leg ∷ []) none)
      here false e h = refl

      behind : (b c : Bool) → legs_of i (put_in is_earlier leg ls) ≡ cond c (legs_of i ls ++ leg ∷ []) (legs_of i ls)
          → cond b (l ∷ legs_of i (put_in is_earlier leg ls)) (legs_of i (put_in is_earlier leg ls)) ≡ cond c (cond b (l ∷ legs_of i ls) (legs_of i ls) ++ leg ∷ []) (cond b (l ∷ legs_of i ls) (legs_of i ls))
      behind true true rest = ap (λ ms. l ∷ ms) rest
      behind true false rest = ap (λ ms. l ∷ ms) rest
      behind false true rest = rest
      behind false false rest = rest

      go : (b : Bool) → is_earlier leg l ≡ b → legs_of i (put_in is_earlier leg ls) ≡ cond (nat_eq i leg.no) (legs_of i ls ++ leg ∷ []) (legs_of i ls)
          → legs_of i (cond b (leg ∷ l ∷ ls) (l ∷ put_in is_earlier leg ls)) ≡ cond (nat_eq i leg.no) (legs_of i (l ∷ ls) ++ leg ∷ []) (legs_of i (l ∷ ls))
      go true e rest = ap (λ b. cond b (leg ∷ legs_of i (l ∷ ls)) (legs_of i (l ∷ ls))) (turned leg.no i) ∙ here (nat_eq i leg.no) refl (at_most leg l e)
      go false e rest = behind (is_of i l) (nat_eq i leg.no) rest

  -- the same of the queues
  pub leg_filed : (i : ℕ) (ls : List Leg) → IsRising ls → AllByRecursion (λ (l : Leg). l.no ≡ leg.no → l.at < leg.at) ls → cond (nat_eq i leg.no) (legs_of leg.no ls ++ leg ∷ []) (legs_of i ls) ≡ legs_of i (put_in is_earlier leg ls)
  leg_filed i ls rising k = go (nat_eq i leg.no) refl ∙ sym (legs_put_in i ls rising k)
    where
      go : (b : Bool) → nat_eq i leg.no ≡ b → cond b (legs_of leg.no ls ++ leg ∷ []) (legs_of i ls) ≡ cond b (legs_of i ls ++ leg ∷ []) (legs_of i ls)
      go true e = ap (λ n. legs_of n ls ++ leg ∷ []) (sym (same i leg.no e))
      go false e = refl

-- ---- where a number's last leg is early enough, all of its legs are
head_has : (P : Leg → Type 0) (i : ℕ) (ls : List Leg) (m : Leg) (ms : List Leg) → legs_of i ls ≡ m ∷ ms → AllByRecursion P ls → P m
head_has P i [] m ms h all = absurd cc
head_has P i (l ∷ ls) m ms h all = go (is_of i l) h (head_has P i ls m ms)
  where
    go : (b : Bool) → cond b (l ∷ legs_of i ls) (legs_of i ls) ≡ m ∷ ms → (legs_of i ls ≡ m ∷ ms → AllByRecursion P ls → P m) → P m
    go true f rest = subst P (ap (first_or l) f) all.0
    go false f rest = rest f all.1

pub all_before_last : (i at : ℕ) (ls : List Leg) → IsRising ls → IfSome (last (legs_of i ls)) (λ (l : Leg). l.at < at) → AllByRecursion (λ (l : Leg). l.no ≡ i → l.at < at) ls
all_before_last i at [] rising h = tt
all_before_last i at (l ∷ ls) rising h = go (is_of i l) refl (legs_of i ls) refl h (all_before_last i at ls (rising_behind l ls rising))
  where
    go : (b : Bool) → is_of i l ≡ b → (fs : List Leg) → legs_of i ls ≡ fs → IfSome (last (cond b (l ∷ fs) fs)) (λ (m : Leg). m.at < at)
        → (IfSome (last fs) (λ (m : Leg). m.at < at) → AllByRecursion (λ (m : Leg). m.no ≡ i → m.at < at) ls) → (l.no ≡ i → l.at < at) × AllByRecursion (λ (m : Leg). m.no ≡ i → m.at < at) ls
    go true e [] f k rest = (λ own. k, rest tt)
    go true e (m ∷ ms) f k rest =
        let all = rest k in
        let before : m.at < at = head_has (λ (n : Leg). n.no ≡ i → n.at < at) i ls m ms f all (is_its i ls m ms f) in
        let later : l.at ≤ m.at = head_has (λ (n : Leg). l.at ≤ n.at) i ls m ms f (all_later l l ls (omega arith) rising).1 in
        (λ own. omega (arith, before, later), all)
    go false e fs f k rest = (λ own. absurd (apart l.no i e own), rest k)

-- ---- the first leg goes
pub first_goes : (i : ℕ) (l : Leg) (ls : List Leg) → cond (nat_eq i l.no) (legs_of l.no ls) (legs_of i (l ∷ ls)) ≡ legs_of i ls
first_goes i l ls = go (nat_eq i l.no) refl
  where
    go : (b : Bool) → nat_eq i l.no ≡ b → cond b (legs_of l.no ls) (cond (nat_eq l.no i) (l ∷ legs_of i ls) (legs_of i ls)) ≡ legs_of i ls
    go true e = ap (λ n. legs_of n ls) (sym (same i l.no e))
    go false e = ap (λ b. cond b (l ∷ legs_of i ls) (legs_of i ls)) (turned l.no i ∙ e)

pub first_of_its : (l : Leg) (ls : List Leg) → legs_of l.no (l ∷ ls) ≡ l ∷ legs_of l.no ls
first_of_its l ls = ap (λ b. cond b (l ∷ legs_of l.no ls) (legs_of l.no ls)) (itself l.no)

-- ---- the legs of a number go
pub legs_without : (n i : ℕ) (ls : List Leg) → legs_of i (without n ls) ≡ cond (nat_eq i n) [] (legs_of i ls)
legs_without n i [] = go (nat_eq i n)
  where
    go : (b : Bool) → [] ≡ cond {A = List Leg} b [] []
    go true = refl
    go false = refl
legs_without n i (l ∷ ls) = go (nat_eq l.no n) refl (nat_eq i n) refl (nat_eq l.no i) refl (legs_without n i ls)
  where
    go : (a : Bool) → nat_eq l.no n ≡ a → (b : Bool) → nat_eq i n ≡ b → (c : Bool) → nat_eq l.no i ≡ c → legs_of i (without n ls) ≡ cond b [] (legs_of i ls)
        → legs_of i (cond (not a) (l ∷ without n ls) (without n ls)) ≡ cond b [] (cond c (l ∷ legs_of i ls) (legs_of i ls))
    go true e true f c g rest = rest
    go true e false f true g rest = absurd (let one = same l.no n e in let other = same l.no i g in apart i n f (sym other ∙ one))
    go true e false f false g rest = rest
    go false e true f true g rest = absurd (let one = same i n f in let other = same l.no i g in apart l.no n e (other ∙ one))
    go false e true f false g rest = ap (λ b. cond b (l ∷ legs_of i (without n ls)) (legs_of i (without n ls))) g ∙ rest
    go false e false f true g rest = ap (λ b. cond b (l ∷ legs_of i (without n ls)) (legs_of i (without n ls))) g ∙ ap (λ ms. l ∷ ms) rest
    go false e false f false g rest = ap (λ b. cond b (l ∷ legs_of i (without n ls)) (legs_of i (without n ls))) g ∙ rest

-- a number without legs leaves all
pub all_stay : (i : ℕ) (ls : List Leg) → legs_of i ls ≡ [] → without i ls ≡ ls
all_stay i [] h = refl
all_stay i (l ∷ ls) h = go (is_of i l) refl h (all_stay i ls)
  where
    go : (b : Bool) → is_of i l ≡ b → cond b (l ∷ legs_of i ls) (legs_of i ls) ≡ [] → (legs_of i ls ≡ [] → without i ls ≡ ls) → cond (not b) (l ∷ without i ls) (without i ls) ≡ l ∷ ls
    go true e f rest = absurd cc
    go false e f rest = ap (λ ms. l ∷ ms) (rest f)

-- ---- ends
pub last_at : (ls : List Leg) (d : Leg) → 0 < length ls → last ls ≡ Some (slice_index_or ls (length ls - 1) d)
last_at [] d h = absurd (omega (arith, h))
last_at (l ∷ []) d h = refl
last_at (l ∷ m ∷ ls) d h =
    let place : length (l ∷ m ∷ ls) - 1 ≡ suc (length (m ∷ ls) - 1) = omega arith in
    last_at (m ∷ ls) d (omega arith) ∙ ap (λ (n : ℕ). Some (slice_index_or (l ∷ m ∷ ls) n d)) (sym place)

pub last_none : (ls : List Leg) → length ls ≡ 0 → last ls ≡ None
last_none [] h = refl
last_none (l ∷ ls) h = absurd (omega (arith, h))

-- what lends the last item, copied
pub last_lent : (ls : List Leg) (n : ℕ) (r : Option (Bor Leg)) → n ≡ length ls → (IsSome r ↔ (0 < n)) → IfSome r (λ (x : Bor Leg). x.now ≡ slice_index_or ls (n - 1) x.now) → option_copied r ≡ last ls
last_lent ls n None e some at = sym (last_none ls (go (length ls) refl))
  where
    go : (k : ℕ) → length ls ≡ k → length ls ≡ 0
    go zero f = f
    go (suc k) f = absurd (let wrong = some.1 (let more : 0 < n = omega (arith, e, f) in more) in cc)
last_lent ls n (Some x) e some at =
    let there : 0 < length ls = (let more = some.0 refl in omega (arith, e, more)) in
    let place : n - 1 ≡ length ls - 1 = omega (arith, e) in
    ap (λ (l : Leg). Some l) (at ∙ ap (λ k. slice_index_or ls k x.now) place) ∙ sym (last_at ls x.now there)
