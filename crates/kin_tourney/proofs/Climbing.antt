-- A repair passes nodes on the way up that only the way leads through.
use Rattle.std.proofs.Common.{◌≡◌, ◌≢◌, ◌⊎◌, inl, inr, refl, sym, ap, ◌∙◌, subst, arith, List, ℕ, zero, suc, ◌/◌, ◌<◌, length, take, ◌++◌, Bool, true, false, set}
use Rattle.std.proofs.Math.Seq.{take-append_seam}
use Rattle.std.proofs.lemmas.Bool.{cases_Bool}
use Rattle.std.proofs.lemmas.List.{length-set, get_or-set_same, get_or-set_other}
use Rattle.kin_algebra.specs.declared.sign.Sign.{Sign}
use Rattle.kin_motion.specs.declared.form.Form.{Form}
use Rattle.kin_motion.specs.Deltas.{Change}
use Rattle.kin_motion.specs.Tournaments.{Key}
use Rattle.kin_tourney.specs.declared.doubt.Doubt.{Doubt}
use Rattle.kin_tourney.specs.declared.doubt.Doubt.TheVariants.{Clear, Below}
use Rattle.kin_tourney.specs.Standings.{Standings, IsClosed, doubt_in}
use Rattle.kin_tourney.specs.Repairs.{IsDone, IsLowest, IsPassage, HasClimbed, needs_play}
use Rattle.kin_tourney.proofs.Doubts.{closed_cleared}
use Rattle.kin_tourney.proofs.Mending.{IsStepped, stepped}
use Rattle.kin_tourney.proofs.Trees.{above_in_doubt, odd_room, perfect, tree_cleared}

below_is_doubt : Below ≢ Clear
below_is_doubt e = cc

doubted_above : (ds : List Doubt) (node : ℕ) → IsPassage ds node → doubt_in ds (node / 2) ≢ Clear
doubted_above ds node p e = below_is_doubt (sym p.below ∙ e)

-- the doubts while nodes are passed
pub record IsClimbing (first : List Doubt) (from : ℕ) (now : List Doubt) (node : ℕ) : Type 0 where
  pub room : length now ≡ length first
  pub closed : IsClosed now
  pub done : IsDone now node
  pub climbed : (count : ℕ) × HasClimbed count first from now node

pub climbing_more : (first : List Doubt) (from : ℕ) (now : List Doubt) (node : ℕ) → IsClimbing first from now node → IsPassage now node → IsClimbing first from (set now (node / 2) Clear) (node / 2)
climbing_more first from now node h p =
    let inside : node / 2 < length now = let i = h.done.inside in omega (arith, i) in
    let up : node / 2 / 2 ≢ node / 2 = let s = p.some in omega (arith, s) in
    record {
      room = length-set now (node / 2) Clear ∙ h.room;
      closed = closed_cleared now (node / 2) h.closed p.some inside p.halves_clear;
      done = record {
        some = p.some;
        inside = let n = length-set now (node / 2) Clear in omega (arith, n, inside);
        clear = get_or-set_same now (node / 2) Clear Clear inside;
        above = λ e. above_in_doubt now h.closed (node / 2) p.some (doubted_above now node p) (sym (get_or-set_other now (node / 2) (node / 2 / 2) Clear Clear up) ∙ e);
      };
      climbed = (suc h.climbed.0, (now, node, h.climbed.1, p, refl, refl));
    }

-- the doubts that a repair passes through a slice, written back
pub written_back : (all : Bool) (len : ℕ) (old was : List Doubt) (now rest : List Doubt) (from to : ℕ) → all ≡ false → old ≡ was → length now ≡ length old → len ≡ length was → (count : ℕ) × HasClimbed count old from now to
    → (count : ℕ) × (all ≡ true → count ≡ 0) × HasClimbed count was from (take len (now ++ rest)) to
written_back all len old was now rest from to none e room size h =
    let whole : take len (now ++ rest) ≡ now = ap (λ (n : ℕ). take n (now ++ rest)) (size ∙ sym (ap length e) ∙ sym room) ∙ take-append_seam now rest in
    (h.0, (λ f. absurd (let z : true ≡ false = sym f ∙ none in cc)), subst (λ (ds : List Doubt). HasClimbed h.0 was from ds to) (sym whole) (subst (λ (ds : List Doubt). HasClimbed h.0 ds from now to) e h.1))

module _ {Item : Type 0} (all : Bool) (key : Key Item) (sign : Form → Sign) where
  -- one more node is passed
  passed_one : (start t0 t : Standings Item) (before after : Change) (node : ℕ) → all ≡ false → IsStepped all key sign start t0 t node before after → IsPassage t.doubts node
      → IsStepped all key sign start t0 (record t { doubts = set t.doubts (node / 2) Clear }) (node / 2) before after
  passed_one start t0 t before after node none s p =
      let tree = s.mending.doubtful.tree in
      let inside : node / 2 < length t.items = let i = s.done.inside in let r = tree.doubts_room in omega (arith, i, r) in
      let lowest : IsLowest t.doubts (node / 2) = record { some = p.some; inside = let r = tree.doubts_room in omega (arith, inside, r); doubted = doubted_above t.doubts node p; halves_clear = p.halves_clear } in
      let q = stepped all key sign start t t (record t { doubts = set t.doubts (node / 2) Clear }) before after after (node / 2) lowest s.mending tree (inr (ap (needs_play all) p.below ∙ none, refl, refl))
      (tree_cleared t tree (node / 2) p.some inside p.halves_clear t.marked refl)
      (record {
        same = refl;
        unmarked = λ i e. absurd (let o = odd_room t.doubts (perfect t tree) (node / 2) p.some in let k = s.done.inside in let r = tree.doubts_room in omega (arith, o, k, r, e));
        marks_kept = λ i n. refl;
      }) in
      record { mending = q.mending; done = q.done; ended = q.ended; count = let a = q.count in let b = s.count in omega (arith, a, b) }

  stepped_up : (start t0 t : Standings Item) (before after : Change) (node : ℕ) → all ≡ false → IsStepped all key sign start t0 t node before after
      → (count : ℕ) (now : List Doubt) (up : ℕ) → HasClimbed count t.doubts node now up → IsStepped all key sign start t0 (record t { doubts = now }) up before after
  stepped_up start t0 t before after node none s zero now up (e, f) =
      subst (λ (n : ℕ). IsStepped all key sign start t0 (record t { doubts = now }) n before after) (sym f)
      (subst (λ (ds : List Doubt). IsStepped all key sign start t0 (record t { doubts = ds }) node before after) (sym e) s)
  stepped_up start t0 t before after node none s (suc k) now up (mid, v, h, p, e, f) =
      subst (λ (n : ℕ). IsStepped all key sign start t0 (record t { doubts = now }) n before after) (sym f)
      (subst (λ (ds : List Doubt). IsStepped all key sign start t0 (record t { doubts = ds }) (v / 2) before after) (sym e)
      (passed_one start t0 (record t { doubts = mid }) before after v none (stepped_up start t0 t before after node none s k mid v h) p))

  -- nodes are passed after a step, where not all are asked for
  pub climbed_on : (start t0 t next : Standings Item) (before after : Change) (node up : ℕ) → IsStepped all key sign start t0 t node before after → next ≡ record t { doubts = next.doubts }
      → (count : ℕ) × (all ≡ true → count ≡ 0) × HasClimbed count t.doubts node next.doubts up → IsStepped all key sign start t0 next up before after
  climbed_on start t0 t next before after node up s same (count, none, h) =
      subst (λ (x : Standings Item). IsStepped all key sign start t0 x up before after) (sym same) (at (cases_Bool all))
    where
      at : (all ≡ true) ⊎ (all ≡ false) → IsStepped all key sign start t0 (record t { doubts = next.doubts }) up before after
      at (inl e) =
          let k = subst (λ (n : ℕ). HasClimbed n t.doubts node next.doubts up) (none e) h in
          subst (λ (n : ℕ). IsStepped all key sign start t0 (record t { doubts = next.doubts }) n before after) (sym k.1)
          (subst (λ (ds : List Doubt). IsStepped all key sign start t0 (record t { doubts = ds }) node before after) (sym k.0) s)
      at (inr e) = stepped_up start t0 t before after node e s count next.doubts up h
