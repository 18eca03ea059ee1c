-- A sketch with the records at both ends that are drawn as they are.
use Rattle.std.proofs.Common.{◌≡◌, refl, sym, ap, ◌∙◌, subst, arith, List, [], ◌∷◌, ◌++◌, ℕ, ◌+◌, ◌-◌, ◌<◌, ◌≤◌, length, get_or, take, drop, append_assoc}
use Rattle.std.proofs.lemmas.List.{append-nil, drop_all}
use Rattle.std.proofs.lemmas.Option.{slice_get_within}
use Rattle.kin_motion.specs.Numbers.{IsOnce}
use Rattle.kin_overlay.specs.declared.draft.Draft.{Draft}
use Rattle.kin_overlay.specs.declared.record.Record.{Record}
use Rattle.kin_overlay.specs.declared.shared.Shared.{Shared}
use Rattle.kin_overlay.specs.declared.sketch.Puts.{Puts}
use Rattle.kin_overlay.specs.declared.standing.Standing.{Standing}
use Rattle.kin_overlay.specs.Passing.{IsLinkedAt, AreUntouched, IsEndOf, IsDrawnAlong, IsDrawnBefore, IsAllDrawn}
use Rattle.kin_overlay.specs.Repairing.{Past, IsKnownPast, IsRetained}
use Rattle.kin_overlay.specs.Resorting.{AreSeated}
use Rattle.kin_overlay.specs.Seats.{seat_in}
use Rattle.kin_overlay.specs.Spans.{IsPassed, AreLinked, IsClosed, AreClean, drafts, whole_sketch}
use Rattle.kin_overlay.proofs.AlongLaws.{back-along, before-more, all-passed}
use Rattle.kin_overlay.proofs.KeptLaws.{retained}
use Rattle.kin_overlay.proofs.PassLaws.{end-some, same-end, last-one, linked-front, linked-back, closed-back}
use Rattle.kin_overlay.proofs.SeatedLaws.{seated}

-- the records at both ends are clean
pub clean : (rs : List Record) (span : Shared) (p : ℕ) (a b first second third fourth : List ℕ) (x y : ℕ) → length rs - span.back ≡ p → span.front + span.back ≤ length rs → IsPassed (take span.front rs) a b first second
    → ((k : ℕ) → k < span.front → IsLinkedAt rs k) → IsPassed (drop p rs) third fourth (x ∷ []) (y ∷ []) → IsEndOf third a → IsEndOf fourth b → ((k : ℕ) → p ≤ k → IsLinkedAt rs k) → AreClean span rs a b
clean rs span p a b first second third fourth x y is within passed linked passed' a_end b_end linked' = record {
  within = within;
  first = first;
  second = second;
  in_front = passed;
  front_linked = linked-front rs span.front linked;
  m = a_end.0;
  n = b_end.0;
  x = x;
  y = y;
  at_end = subst (λ (k : ℕ). IsPassed (drop k rs) (drop a_end.0 a) (drop b_end.0 b) (x ∷ []) (y ∷ [])) (sym is)
      (subst (λ (l : List ℕ). IsPassed (drop p rs) l (drop b_end.0 b) (x ∷ []) (y ∷ [])) a_end.2 (subst (λ (l : List ℕ). IsPassed (drop p rs) third l (x ∷ []) (y ∷ [])) b_end.2 passed'));
  back_linked = subst (λ (k : ℕ). AreLinked (drop k rs)) (sym is) (linked-back rs p linked');
  closed = subst (λ (k : ℕ). IsClosed (drop k rs)) (sym is) (closed-back rs p linked');
}

-- those in front alone
pub clean-front : (rs : List Record) (front : ℕ) (a b first second : List ℕ) → front ≤ length rs → 0 < length a → 0 < length b → IsPassed (take front rs) a b first second → ((k : ℕ) → k < front → IsLinkedAt rs k) → AreClean (record { front = front; back = 0 }) rs a b
clean-front rs front a b first second within p q passed linked =
    let third = drop (length a - 1) a in
    let fourth = drop (length b - 1) b in
    let x = get_or a (length a - 1) 0 in
    let y = get_or b (length b - 1) 0 in
    clean rs (record { front = front; back = 0 }) (length rs) a b first second third fourth x y (omega arith) (omega (arith, within)) passed linked
    (subst (λ (l : List Record). IsPassed l third fourth (x ∷ []) (y ∷ [])) (sym (drop_all (length rs) rs (omega arith))) (sym (last-one a p), sym (last-one b q))) (length a - 1, omega (arith, p), refl) (length b - 1, omega (arith, q), refl)
    (λ k l r at. absurd (let m = slice_get_within rs k r at in omega (arith, l, m)))

module _ (w : Standing) (put_a put_b a b : List ℕ) where
  abbrev rs : List Record
  rs = w.list.now.records

  -- what is drawn of the span and between
  pub all-whole : (span : Shared) (p : ℕ) (out : List Draft) → length rs - span.back ≡ p → IsAllDrawn w put_a put_b a b (drafts (take span.front rs) ++ (out ++ drafts (drop p rs))) → IsAllDrawn w put_a put_b a b (whole_sketch span rs out)
  all-whole span p out is all = subst (λ (k : ℕ). IsAllDrawn w put_a put_b a b (drafts (take span.front rs) ++ (out ++ drafts (drop k rs)))) (sym is) all

  -- where no records at the end are left out
  pub all-front : (front : ℕ) (out : List Draft) → IsAllDrawn w put_a put_b a b (drafts (take front rs) ++ out) → IsAllDrawn w put_a put_b a b (whole_sketch (record { front = front; back = 0 }) rs out)
  all-front front out all =
      let none = drop_all (length rs) rs (omega arith) in
      all-whole (record { front = front; back = 0 }) (length rs) out (omega arith)
      (subst (λ (l : List Draft). IsAllDrawn w put_a put_b a b (drafts (take front rs) ++ l)) (sym (append-nil out) ∙ ap (λ (l : List Record). out ++ drafts l) (sym none)) all)

  module _ (front p : ℕ) (f s f' s' : List ℕ) (out part new : List Draft) (before : IsDrawnBefore w put_a put_b a b (drop front rs) f s (drafts (take front rs) ++ out)) (pushed : new ≡ out ++ part)
      (along : IsDrawnAlong w put_a put_b (drop front rs) (drop p rs) f s f' s' part) where
    abbrev start : List Draft
    start = drafts (take front rs)

    pub between : IsDrawnBefore w put_a put_b a b (drop p rs) f' s' (start ++ new)
    between =
        subst (IsDrawnBefore w put_a put_b a b (drop p rs) f' s') (append_assoc start out part ∙ ap (λ (l : List Draft). start ++ l) (sym pushed)) (before-more w put_a put_b a b (drop front rs) (drop p rs) f s f' s' (start ++ out) part before along)

    -- where what is left is what the records at the end begin with
    pub all-between : (third fourth : List ℕ) (x y : ℕ) → IsEndOf third f → IsEndOf fourth s → length f' ≡ length third → length s' ≡ length fourth → AreUntouched w put_a put_b (drop p rs) third fourth (x ∷ []) (y ∷ [])
        → IsAllDrawn w put_a put_b a b (start ++ (new ++ drafts (drop p rs)))
    all-between third fourth x y a_end b_end a_same b_same u =
        let first_is = same-end f' third f along.a_end a_end a_same in
        let second_is = same-end s' fourth s along.b_end b_end b_same in
        let here = subst (λ (l : List ℕ). IsDrawnBefore w put_a put_b a b (drop p rs) third l (start ++ new)) second_is (subst (λ (l : List ℕ). IsDrawnBefore w put_a put_b a b (drop p rs) l s' (start ++ new)) first_is between) in
        let last = back-along w put_a put_b p third fourth (x ∷ []) (y ∷ []) u (end-some third f a_end) (end-some fourth s b_end) in
        subst (IsAllDrawn w put_a put_b a b) (append_assoc start new (drafts (drop p rs)))
        (all-passed w put_a put_b a b x y ((start ++ new) ++ drafts (drop p rs)) (before-more w put_a put_b a b (drop p rs) [] third fourth (x ∷ []) (y ∷ []) (start ++ new) (drafts (drop p rs)) here last))

-- the clauses of a sketch
module _ (w : Standing) (puts : Puts) (a b : List ℕ) (a_some : 0 < length a) (b_some : 0 < length b) (a_once : IsOnce a) (b_once : IsOnce b) (out : List Draft) (all : IsAllDrawn w puts.a.now puts.b.now a b out) where
  pub all-seated : AreSeated (seat_in a b) [] out
  all-seated = seated w puts.a.now puts.b.now a b a_once b_once out a_some b_some all.sketch

  pub all-retained : (p : Past) → IsKnownPast p w puts a b → IsRetained w a b out
  all-retained p known = retained w puts a b p known a_once b_once out a_some b_some all.sketch
