-- What is reached along a thread are exactly the slots that point at one slot, each once.
use Rattle.std.proofs.Common.{◌≡◌, ◌⊎◌, inl, inr, refl, sym, ap, ◌∙◌, subst, arith, List, [], ◌∷◌, ℕ, zero, suc, ◌+◌, ◌<◌, ◌≤◌, length, Some, None, Option}
use Rattle.std.specs.Prelude.{Contains}
use Rattle.std.proofs.lemmas.Option.{slice_get_within}
use Rattle.kin_algebra.proofs.Members.{contains_from_get}
use Rattle.kin_motion.specs.Sets.{AreDistinct, ListsExactly}
use Rattle.kin_motion.proofs.SetLaws.{contains_none, contains_head, contains_tail, contains_cases, distinct_none, distinct_cons}
use Rattle.kin_list.proofs.PigeonLaws.{few_below}
use Rattle.kin_wedge.specs.Threads.{Web, PointsAt, IsThreaded, IsReached, walk}

module _ (bound : ℕ) (next : ℕ → Option ℕ) where
  walk_reads : (n : ℕ) (at : Option ℕ) (xs : List ℕ) → IsReached bound next at xs → length xs ≤ n → walk n next at ≡ xs
  walk_reads zero at [] r l = refl
  walk_reads (suc n) at [] r l = ap (walk (suc n) next) r
  walk_reads zero at (x ∷ xs) r l = absurd (omega (arith, l))
  walk_reads (suc n) at (x ∷ xs) r l = ap (walk (suc n) next) r.0 ∙ ap (λ (ys : List ℕ). x ∷ ys) (walk_reads n (next x) xs r.2 (omega (arith, l)))

  short_walk : (n : ℕ) (at : Option ℕ) → length (walk n next at) ≤ n
  short_walk zero at = omega arith
  short_walk (suc n) None = omega arith
  short_walk (suc n) (Some s) = let l = short_walk n (next s) in omega (arith, l)

  -- a walk that ends goes on from the next slot, and ends there too
  pub walk_on : (n s : ℕ) → IsReached bound next (Some s) (walk n next (Some s)) → (s < bound) × (walk n next (Some s) ≡ s ∷ walk n next (next s)) × IsReached bound next (next s) (walk n next (next s))
  walk_on zero s r = absurd cc
  walk_on (suc n) s r =
      let l = short_walk n (next s) in
      let e = walk_reads (suc n) (next s) (walk n next (next s)) r.2 (omega (arith, l)) in
      (r.1, ap (λ (xs : List ℕ). s ∷ xs) (sym e), subst (IsReached bound next (next s)) (sym e) r.2)

module _ (w : Web) (t : IsThreaded w) (q : ℕ) where
  -- these are reached from a slot on, all of them point at q, and each began before those before it
  record IsRun (at : Option ℕ) (xs : List ℕ) : Type 0 where
    reached : IsReached (length w.targets) w.next at xs
    each : (s : ℕ) → Contains xs s → PointsAt w s q
    once : AreDistinct xs
    past : (now : ℕ) → ((s : ℕ) → at ≡ Some s → t.began s < now) → (s : ℕ) → Contains xs s → t.began s < now
    start : (s : ℕ) → at ≡ Some s → Contains xs s
    closed : (s n : ℕ) → Contains xs s → w.next s ≡ Some n → Contains xs n

  run_none : IsRun None []
  run_none = record {
    reached = refl;
    each = λ s m. absurd (contains_none s m);
    once = distinct_none;
    past = λ now h s m. absurd (contains_none s m);
    start = λ s e. absurd cc;
    closed = λ s n m e. absurd (contains_none s m);
  }

  run_more : (s : ℕ) (rest : List ℕ) → PointsAt w s q → IsRun (w.next s) rest → IsRun (Some s) (s ∷ rest)
  run_more s rest p r = record {
    reached = (refl, slice_get_within w.targets s _ p, r.reached);
    each = λ x m. each x (contains_cases s x rest m);
    once = distinct_cons s rest (λ m. let l = r.past (t.began s) next_earlier s m in omega (arith, l)) r.once;
    past = λ now h x m. past now h x (contains_cases s x rest m);
    start = λ x e. subst (Contains (s ∷ rest)) (same x e) (contains_head s rest);
    closed = λ x n m e. contains_tail s n rest (closed x n e (contains_cases s x rest m));
  }
    where
      same : (x : ℕ) → Some s ≡ Some x → s ≡ x
      same x e = cc

      next_earlier : (n : ℕ) → w.next s ≡ Some n → t.began n < t.began s
      next_earlier n e = (t.next s n q p e).2

      each : (x : ℕ) → (s ≡ x) ⊎ Contains rest x → PointsAt w x q
      each x (inl e) = subst (λ (y : ℕ). PointsAt w y q) e p
      each x (inr m) = r.each x m

      past : (now : ℕ) → ((x : ℕ) → Some s ≡ Some x → t.began x < now) → (x : ℕ) → (s ≡ x) ⊎ Contains rest x → t.began x < now
      past now h x (inl e) = h x (ap (λ (y : ℕ). Some y) e)
      past now h x (inr m) = r.past now (λ n e. let l = next_earlier n e in let k = h s refl in omega (arith, l, k)) x m

      closed : (x n : ℕ) → w.next x ≡ Some n → (s ≡ x) ⊎ Contains rest x → Contains rest n
      closed x n e (inl k) = r.start n (ap w.next k ∙ e)
      closed x n e (inr m) = r.closed x n m e

  run : (k : ℕ) (at : Option ℕ) → ((s : ℕ) → at ≡ Some s → PointsAt w s q × (t.began s < k)) → (xs : List ℕ) × IsRun at xs
  run k None h = ([], run_none)
  run zero (Some s) h = absurd (let l = (h s refl).1 in omega (arith, l))
  run (suc k) (Some s) h =
      let p = h s refl in
      let rest = run k (w.next s) (λ n e. let f = t.next s n q p.0 e in let l = f.2 in let m = p.1 in (f.0, omega (arith, l, m))) in
      (s ∷ rest.0, run_more s rest.0 p.0 rest.1)

  -- each slot that points at q is reached from the first
  all : (xs : List ℕ) → IsRun (w.first q) xs → (k s : ℕ) → PointsAt w s q → t.now ≤ k + t.began s → Contains xs s
  all xs r zero s p h = absurd (let l = t.past s in omega (arith, h, l))
  all xs r (suc k) s p h = at (w.previous s) refl (λ b f l. all xs r k b f (omega (arith, h, l)))
    where
      at : (o : Option ℕ) → w.previous s ≡ o → ((b : ℕ) → PointsAt w b q → t.began s < t.began b → Contains xs b) → Contains xs s
      at None e before = r.start s (t.front s q p e)
      at (Some b) e before =
          let f = t.previous s b q p e in
          r.closed b s (before b f.0 (t.next b s q f.0 f.1).2) f.1

  pub whole : (xs : List ℕ) × IsReached (length w.targets) w.next (w.first q) xs × (length xs ≤ length w.targets) × ListsExactly xs (λ s. PointsAt w s q)
  whole =
      let r = run t.now (w.first q) (λ s e. ((t.first s q e).0, t.past s)) in (
        r.0,
        r.1.reached,
        few_below r.0 (length w.targets) r.1.once (λ i s e. slice_get_within w.targets s _ (r.1.each s (contains_from_get r.0 i s e))),
        record { once = r.1.once; each = λ s. (r.1.each s, λ p. all r.0 r.1 t.now s p (omega arith)) },
      )

  read_whole : (n : ℕ) → length w.targets ≤ n → walk n w.next (w.first q) ≡ whole.0
  read_whole n h = let l = whole.2 in walk_reads (length w.targets) w.next n (w.first q) whole.0 whole.1 (omega (arith, l, h))

  pub walk_reached : (n : ℕ) → length w.targets ≤ n → IsReached (length w.targets) w.next (w.first q) (walk n w.next (w.first q))
  walk_reached n h = subst (IsReached (length w.targets) w.next (w.first q)) (sym (read_whole n h)) whole.1

  pub walk_lists : (n : ℕ) → length w.targets ≤ n → ListsExactly (walk n w.next (w.first q)) (λ s. PointsAt w s q)
  walk_lists n h = subst (λ (xs : List ℕ). ListsExactly xs (λ s. PointsAt w s q)) (sym (read_whole n h)) whole.3
