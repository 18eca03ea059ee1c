-- The eight lists settle one after another.
use Rattle.std.proofs.Common.{◌≡◌, ◌≢◌, refl, sym, ap, ap₂, ◌∙◌, subst, arith, List, ℕ, zero, suc, ◌+◌, ◌<◌, ◌≤◌, map, set, length, Some}
use Rattle.std.specs.Prelude.{slice_get}
use Rattle.std.proofs.lemmas.List.{set-get_or}
use Rattle.std.proofs.lemmas.Option.{slice_get_within, get_or_from_slice_get}
use Rattle.kin_algebra.proofs.Places.{get_within, get-set_same, get-set_other}
use Rattle.kin_motion.specs.Records.{moved_pairs}
use Rattle.kin_motion.specs.Deltas.{Change}
use Rattle.kin_motion.specs.Kinetics.{HasGained, HasChanged}
use Rattle.kin_motion.specs.Parts.{moved_by}
use Rattle.kin_motion.specs.Scene.{Scene}
use Rattle.kin_motion.proofs.ChangeLaws.{nothing_changed}
use Rattle.kin_motion.proofs.Gains.{gained_none}
use Rattle.kin_list.specs.declared.mark.Mark.{Mark}
use Rattle.kin_list.specs.Listing.{Listing, AreHalvings, AreFewTests}
use Rattle.kin_wedge.specs.Costs.{moved_below, AreFewBelow}
use Rattle.kin_wedge.specs.Parts.{facts_from, EachTo, IsResettled}
use Rattle.kin_wedge.specs.Rows.{row_of}
use Rattle.kin_wedge.specs.Seen.{rows_of}
use Rattle.kin_wedge.proofs.AllRows.{items_there, items_same}
use Rattle.kin_wedge.proofs.Parting.{AllAtNought, IsOnlyIn, gained_more, gained_all}
use Rattle.kin_wedge.proofs.Posted.{nought_settled}
use Rattle.kin_wedge.proofs.Stepwise.{AreMade, made_none, made_more, made_all}

-- moved pairs of orders that are alike below n
moved_same : (n : ℕ) (old new new' : List (List ℕ)) → ((k : ℕ) → k < n → row_of new' k ≡ row_of new k) → moved_below n old new' ≡ moved_below n old new
moved_same zero old new new' h = refl
moved_same (suc n) old new new' h =
    ap₂ (λ (a b : ℕ). a + b) (moved_same n old new new' (λ k l. h k (omega (arith, l)))) (ap (moved_pairs (row_of old n)) (h n (omega arith)))

-- the first i lists have settled
pub record AreSettledTo (s : Scene) (first now : List Listing) (out out' : Change) (before after i : ℕ) : Type 0 where
  pub made : AreMade (IsResettled s) first now i
  pub dropped : HasGained out.dropped out'.dropped (IsOnlyIn first now i)
  pub born : HasGained out.born out'.born (IsOnlyIn now first i)
  pub tests : (mark : Mark) → ((part : ℕ) (l : Listing) → slice_get first part ≡ Some l → l.mark ≡ mark) → AreFewBelow i mark (rows_of first) (rows_of now) out out' before after

module _ (s : Scene) (first : List Listing) (out : Change) (before : ℕ) where
  pub settled_none : AreSettledTo s first first out out before before 0
  settled_none = record {
    made = made_none (IsResettled s) first;
    dropped = gained_none out.dropped _ (λ p h. let l = h.0 in omega (arith, l));
    born = gained_none out.born _ (λ p h. let l = h.0 in omega (arith, l));
    tests = λ mark e. record { halvings = 0; allowed = refl; bound = omega arith };
  }

  few_more : (mark : Mark) (now now' : List Listing) (out' out'' : Change) (after after' i : ℕ) (l m : Listing) → slice_get first i ≡ Some l → slice_get now' i ≡ Some m → l.mark ≡ mark
      → ((k : ℕ) → k < i → slice_get now' k ≡ slice_get now k) → AreFewBelow i mark (rows_of first) (rows_of now) out out' before after → AreFewTests l.mark l.items m.items out' out'' after after'
      → AreFewBelow (suc i) mark (rows_of first) (rows_of now') out out'' before after'
  few_more mark now now' out' out'' after after' i l m e f same alike t u =
      let rows : row_of (rows_of first) i ≡ l.items = items_there first i l e in
      let rows' : row_of (rows_of now') i ≡ m.items = items_there now' i m f in
      let moved : moved_pairs (row_of (rows_of first) i) (row_of (rows_of now') i) ≡ moved_pairs l.items m.items = ap₂ (λ (a b : List ℕ). moved_pairs a b) rows rows' in
      let below : moved_below i (rows_of first) (rows_of now') ≡ moved_below i (rows_of first) (rows_of now) = moved_same i (rows_of first) (rows_of now) (rows_of now') (λ k h. items_same now now' k (alike k h)) in
      let b = t.bound in
      let c = u.bound in
      record {
        halvings = t.halvings + u.halvings;
        allowed = (t.halvings, u.halvings, t.allowed, subst (λ (xs : List ℕ). AreHalvings mark (length xs) u.halvings) (sym rows) (subst (λ (k : Mark). AreHalvings k (length l.items) u.halvings) same u.allowed), refl);
        bound = omega (arith, b, c, moved, below);
      }

  pub settled_more : (now : List Listing) (out' out'' : Change) (after after' i : ℕ) (l m : Listing) → AllAtNought first → AreSettledTo s first now out out' before after i → slice_get now i ≡ Some l → IsResettled s l m
      → HasChanged (map (moved_by i) l.facts) (map (moved_by i) m.facts) out' out'' → AreFewTests l.mark l.items m.items out' out'' after after'
      → AreSettledTo s first (set now i m) out out'' before after' (i + 1)
  settled_more now out' out'' after after' i l m nought a here r d t =
      let there : slice_get first i ≡ Some l = sym (a.made.left i (omega arith)) ∙ here in
      let new : slice_get (set now i m) i ≡ Some m = get-set_same now i m (slice_get_within now i l here) in
      let others : (k : ℕ) → k ≢ i → slice_get (set now i m) k ≡ slice_get now k = λ k n. get-set_other now i k m n in
      let l_nought = nought i l there in
      let m_nought = nought_settled m s r.settled in
      record {
        made = made_more (IsResettled s) first now i l m a.made here r;
        dropped = gained_more first first now (set now i m) i l m (λ k n. refl) others there new l_nought m_nought out.dropped out'.dropped out''.dropped a.dropped d.dropped;
        born = gained_more now (set now i m) first first i m l others (λ k n. refl) new there m_nought l_nought out.born out'.born out''.born a.born d.born;
        tests = λ mark e. subst (λ (n : ℕ). AreFewBelow n mark (rows_of first) (rows_of (set now i m)) out out'' before after') (one_more i)
            (few_more mark now (set now i m) out' out'' after after' i l m there new (e i l there) (λ k h. others k (λ g. omega (arith, g, h))) (a.tests mark e) t);
      }
    where
      one_more : (n : ℕ) → suc n ≡ n + 1
      one_more n = omega arith

  -- a list that stands as it settled has settled
  settled_still : (now : List Listing) (out' : Change) (after i : ℕ) (m : Listing) → AllAtNought first → AreSettledTo s first now out out' before after i → slice_get first i ≡ Some m → IsResettled s m m → AreSettledTo s first now out out' before after (i + 1)
  settled_still now out' after i m nought a there r =
      let here : slice_get now i ≡ Some m = a.made.left i (omega arith) ∙ there in
      subst (λ (ls : List Listing). AreSettledTo s first ls out out' before after (i + 1)) (ap (set now i) (sym (get_or_from_slice_get now i m m here)) ∙ set-get_or now i m)
      (settled_more now out' out' after after i m m nought a here r (nothing_changed (map (moved_by i) m.facts) out')
      (record { halvings = 0; allowed = subst (λ (mark : Mark). AreHalvings mark (length m.items) 0) (sym r.rest) refl; bound = omega arith }))

  -- the same of all lists from one to before another
  pub settled_past : (now : List Listing) (out' : Change) (after n i j : ℕ) → n + i ≡ j → j ≤ length first → AllAtNought first → ((part : ℕ) (m : Listing) → i ≤ part → part < j → slice_get first part ≡ Some m → IsResettled s m m)
      → AreSettledTo s first now out out' before after i → AreSettledTo s first now out out' before after j
  settled_past now out' after zero i j e w nought still a = subst (AreSettledTo s first now out out' before after) (omega (arith, e)) a
  settled_past now out' after (suc n) i j e w nought still a =
      let m = get_within first i (omega (arith, e, w)) in
      settled_past now out' after n (i + 1) j (omega (arith, e)) w nought (λ part x h. still part x (omega (arith, h)))
      (settled_still now out' after i m.0 nought a m.1 (still i m.0 (omega arith) (omega (arith, e)) m.1))

  all_nought : (now : List Listing) → EachTo (IsResettled s) first now → AllAtNought now
  all_nought now e part m h =
      let c = e.count in
      let w = slice_get_within now part m h in
      let l = get_within first part (omega (arith, c, w)) in
      nought_settled m s (e.each part l.0 m l.1 h).settled

  pub settled_all : (now : List Listing) (out' : Change) (after i : ℕ) → length first ≡ 8 → 8 ≤ i → AllAtNought first → AreSettledTo s first now out out' before after i → HasChanged (facts_from 0 first) (facts_from 0 now) out out'
  settled_all now out' after i n h nought a =
      let e = made_all (IsResettled s) first now i (omega (arith, n, h)) a.made in
      let c = a.made.count in
      record {
        dropped = gained_all first now out.dropped out'.dropped i (omega (arith, n, h)) nought (all_nought now e) a.dropped;
        born = gained_all now first out.born out'.born i (omega (arith, n, h, c)) (all_nought now e) nought a.born;
      }
