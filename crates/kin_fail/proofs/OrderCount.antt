-- In a journal the failures of an order have different keys, so there are at most n*n - n.
use Rattle.std.proofs.Common.{◌≡◌, ◌≢◌, ◌⊎◌, inl, inr, ap, sym, ◌∙◌, subst, arith, List, [], ◌∷◌, ℕ, ◌+◌, ◌*◌, ◌≤◌, ℤ, true, Option, Some, map, length}
use Rattle.std.specs.Prelude.{Contains, filter, slice_get, nat_eq}
use Rattle.std.proofs.lemmas.Bool.Decides.{nat_tests}
use Rattle.std.proofs.lemmas.List.{map-append, length-map}
use Rattle.std.proofs.lemmas.List.Elements.{Contains-append_cases}
use Rattle.std.proofs.lemmas.Option.{same_Some}
use Rattle.kin_num.specs.declared.instant.Moment.{Moment}
use Rattle.kin_num.specs.Canonical.{IsCanonical}
use Rattle.kin_num.specs.Order.{IsEarlier}
use Rattle.kin_num.proofs.MomentLaws.{never, through}
use Rattle.kin_motion.specs.declared.fact.Placed.{Placed}
use Rattle.kin_motion.specs.declared.keep.Keep.{Keep}
use Rattle.kin_motion.specs.declared.keep.Keep.TheVariants.{Order}
use Rattle.kin_motion.specs.Course.{Course, AreSlow, live_of}
use Rattle.kin_motion.specs.Scene.{scene_at}
use Rattle.kin_motion.specs.Sets.{AreDistinct}
use Rattle.kin_motion.specs.Orders.{IsOrderFact}
use Rattle.kin_motion.specs.Live.{IsSmallDirection, IsKeepFact}
use Rattle.kin_motion.specs.Journal as journal
use Rattle.kin_motion.specs.Journal.{Setting, Failure, Block, IsNextBlock, IsJournal, setting_of, rank_of, is_listed_before}
use Rattle.kin_motion.proofs.JournalLaws.{never_less_rank, less_rank_through}
use Rattle.kin_motion.proofs.ListChains.{chain_distinct}
use Rattle.kin_motion.proofs.LiveLaws.{filled-once}
use Rattle.kin_motion.proofs.Members.{contains_from_in}
use Rattle.kin_motion.proofs.SetLaws.{contains_none, contains_mapped, distinct_none, distinct_append, distinct_mapped_on, distinct_filter, filter-sound, apart_from_once}
use Rattle.kin_fail.specs.Laws.{OrderFailuresAreFew, is_of, failures_of}
use Rattle.kin_fail.proofs.FailureRoots.{fails_in_block}
use Rattle.kin_fail.proofs.Pairs.{Pair, pair, square, in_square, few_pairs}
use Rattle.kin_fail.proofs.PairKeys.{key, key_of, ends_of_key, key_apart, same_ends}
use Rattle.kin_fail.proofs.OrderFailures.{IsPairFailure, pair_failure, same_pair, same_moment, key_is}

module _ (ms : List (Option Course)) (size : ℕ) (keeps : List Keep) (structure : ℕ) (dx dy : ℤ) (slow : AreSlow ms) (small : IsSmallDirection dx dy)
    (kept : slice_get keeps structure ≡ Some (Order dx dy)) where
  abbrev t : Setting
  t = setting_of ms size keeps

  abbrev key_of_failure : Failure → Pair
  key_of_failure f = key_of f.was.placed

  abbrev IsPairOf : Moment → Moment → Failure → Type 0
  IsPairOf now m f = IsPairFailure ms slow dx dy small now m f.was.placed

  -- a failure of the order in one block
  record IsOwn (now m : Moment) (f : Failure) : Type 0 where
    failure : journal.IsFailure t now m f
    own : f.was.structure ≡ structure
    of_pair : IsPairOf now m f

  -- a failure of the order in some block after `now`
  record IsLater (now : Moment) (f : Failure) : Type 0 where
    from : Moment
    moment : Moment
    later : IsEarlier now moment
    of_pair : IsPairOf from moment f

  module _ (now : Moment) (here : IsCanonical now.at) (b : Block) (next : IsNextBlock t now b) where
    own_failure : (f : Failure) → Contains (filter (is_of structure) b.failures) f → IsOwn now b.moment f
    own_failure f there =
        let passed = filter-sound (is_of structure) b.failures f there in
        let own : f.was.structure ≡ structure = let e : nat_eq f.was.structure structure ≡ true = passed.1 in grind (arith, nat_tests, e) in
        let failure = (next.exact f).0 passed.0 in
        let keep : failure.live.keep ≡ Order dx dy = same_Some _ _ (sym failure.live.kept ∙ ap (slice_get keeps) own ∙ kept) in
        let fact : IsOrderFact (scene_at ms now) dx dy 0 f.was.placed = subst (λ (k : Keep). IsKeepFact size (scene_at ms now) k f.was.placed) keep failure.live.fact in
        let fails = fails_in_block t now b f next failure in
        record { failure = failure; own = own; of_pair = pair_failure ms slow dx dy small now here b.moment f.was.placed fact fails }

    -- with one key they are one
    same_failure : (f g : Failure) → IsOwn now b.moment f → IsOwn now b.moment g → key_of_failure f ≡ key_of_failure g → f ≡ g
    same_failure f g v w e =
        let p = f.was.placed in
        let q = g.was.placed in
        let ends = same_ends p.fact.sign q.fact.sign v.of_pair.first v.of_pair.second w.of_pair.first w.of_pair.second
        (sym (key_is ms slow dx dy small now b.moment p v.of_pair) ∙ e ∙ key_is ms slow dx dy small now b.moment q w.of_pair) in
        let placed : p ≡ q = same_pair ms slow dx dy small now here b.moment b.moment p q v.of_pair w.of_pair ends in
        let sign : f.now ≡ g.now = v.failure.sign ∙ ap (λ (x : Placed). (scene_at ms b.moment).sign x.fact.form) placed ∙ sym w.failure.sign in
        let owner : f.was.structure ≡ g.was.structure = v.own ∙ sym w.own in
        λ i. record { was = record { structure = owner i; placed = placed i }; now = sign i }

    listed_once : AreDistinct b.failures
    listed_once = chain_distinct is_listed_before (λ f g h. less_rank_through (rank_of f) (rank_of g) (rank_of h)) (λ f. never_less_rank (rank_of f)) b.failures next.in_order

    distinct_keys : AreDistinct (map key_of_failure (filter (is_of structure) b.failures))
    distinct_keys =
        distinct_mapped_on key_of_failure (filter (is_of structure) b.failures) (λ f g h k e. same_failure f g (own_failure f h) (own_failure g k) e)
        (distinct_filter (is_of structure) b.failures listed_once)

  -- ---- all blocks
  record HasOwnKeys (now : Moment) (fs : List Failure) : Type 0 where
    distinct : AreDistinct (map key_of_failure fs)
    each : (f : Failure) → Contains fs f → IsLater now f

  in_journal : (now last : Moment) → IsCanonical now.at → (bs : List Block) → IsJournal t now last bs → HasOwnKeys now (failures_of structure bs)
  in_journal now last here [] j = record { distinct = distinct_none; each = λ f h. absurd (contains_none f h) }
  in_journal now last here (b ∷ bs) (next, in_time, rest) = after (in_journal b.moment last next.canonical bs rest)
    where
      front : List Failure
      front = filter (is_of structure) b.failures

      after : HasOwnKeys b.moment (failures_of structure bs) → HasOwnKeys now (failures_of structure (b ∷ bs))
      after more = record {
        distinct = subst (λ (zs : List Pair). AreDistinct zs) (sym (map-append key_of_failure front (failures_of structure bs)))
            (distinct_append (map key_of_failure front) (map key_of_failure (failures_of structure bs)) (distinct_keys now here b next) more.distinct apart);
        each = λ f h. at f (Contains-append_cases front (failures_of structure bs) f h);
      }
        where
          apart : (z : Pair) → Contains (map key_of_failure front) z → Contains (map key_of_failure (failures_of structure bs)) z → ⊥
          apart z h k =
              let f = contains_mapped key_of_failure front z h in
              let g = contains_mapped key_of_failure (failures_of structure bs) z k in
              let v = (own_failure now here b next f.0 f.1).of_pair in
              let w = more.each g.0 g.1 in
              let same : b.moment ≡ w.moment = same_moment ms slow dx dy small now w.from b.moment w.moment f.0.was.placed g.0.was.placed v w.of_pair (sym f.2 ∙ g.2) in
              never b.moment next.canonical (subst (IsEarlier b.moment) (sym same) w.later)

          at : (f : Failure) → Contains front f ⊎ Contains (failures_of structure bs) f → IsLater now f
          at f (inl h) = record { from = now; moment = b.moment; later = next.later; of_pair = (own_failure now here b next f h).of_pair }
          at f (inr h) =
              let w = more.each f h in
              let later = through now b.moment w.moment here next.canonical w.of_pair.canonical next.later w.later in
              record { from = w.from; moment = w.moment; later = later; of_pair = w.of_pair }

  pair_of_live : (now m : Moment) (f : Failure) → IsPairOf now m f
      → Contains (square (live_of ms)) (key_of_failure f) × ((key_of_failure f).0 ≢ (key_of_failure f).1)
  pair_of_live now m f v =
      subst (λ (z : Pair). Contains (square (live_of ms)) z × (z.0 ≢ z.1)) (sym (key_is ms slow dx dy small now m f.was.placed v))
      (at (ends_of_key f.was.placed.fact.sign v.first v.second), key_apart f.was.placed.fact.sign v.first v.second v.apart)
    where
      one : Contains (live_of ms) v.first
      one = contains_from_in (live_of ms) v.first v.first_live

      other : Contains (live_of ms) v.second
      other = contains_from_in (live_of ms) v.second v.second_live

      at : (key f.was.placed.fact.sign v.first v.second ≡ pair v.first v.second) ⊎ (key f.was.placed.fact.sign v.first v.second ≡ pair v.second v.first)
          → Contains (square (live_of ms)) (key f.was.placed.fact.sign v.first v.second)
      at (inl e) = subst (λ (z : Pair). Contains (square (live_of ms)) z) (sym e) (in_square (live_of ms) v.first v.second one other)
      at (inr e) = subst (λ (z : Pair). Contains (square (live_of ms)) z) (sym e) (in_square (live_of ms) v.second v.first other one)

  few_failures : (now last : Moment) → IsCanonical now.at → (bs : List Block) → IsJournal t now last bs
      → length (failures_of structure bs) + length (live_of ms) ≤ length (live_of ms) * length (live_of ms)
  few_failures now last here bs j =
      let h = in_journal now last here bs j in
      let fs = failures_of structure bs in
      let few = few_pairs (live_of ms) (map key_of_failure fs) (apart_from_once (live_of ms) (filled-once 0 ms)) h.distinct among in
      let same = length-map fs key_of_failure in
      omega (arith, few, same)
    where
      among : (z : Pair) → Contains (map key_of_failure (failures_of structure bs)) z → Contains (square (live_of ms)) z × (z.0 ≢ z.1)
      among z k =
          let f = contains_mapped key_of_failure (failures_of structure bs) z k in
          let w = (in_journal now last here bs j).each f.0 f.1 in
          subst (λ (y : Pair). Contains (square (live_of ms)) y × (y.0 ≢ y.1)) (sym f.2) (pair_of_live w.from w.moment f.0 w.of_pair)

pub order_failures_are_few : OrderFailuresAreFew
order_failures_are_few ms size keeps now last bs structure dx dy slow small here kept j =
    few_failures ms size keeps structure dx dy slow small kept now last here bs j
