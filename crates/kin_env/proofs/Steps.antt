-- One step of a repair: a node is visited and cleared.
use Rattle.std.proofs.Common.{◌≡◌, ◌≢◌, ◌⊎◌, inl, inr, refl, sym, ap, ap₂, ◌∙◌, subst, arith, List, [], ◌∷◌, ℕ, ◌+◌, ◌*◌, ◌/◌, ◌^◌, ◌<◌, ◌≤◌, length, Bool, set}
use Rattle.std.specs.Prelude.{Option, Some, None}
use Rattle.std.proofs.lemmas.Bool.{cases_eq}
use Rattle.std.proofs.lemmas.List.{length-set, get_or-set_same, get_or-set_other}
use Rattle.kin_algebra.proofs.Members.{contains_none}
use Rattle.kin_motion.specs.declared.fact.Placed.{Placed}
use Rattle.kin_motion.specs.Chains.{IsUpperChain}
use Rattle.kin_motion.specs.Deltas.{Change}
use Rattle.kin_motion.specs.Edits.{Edit}
use Rattle.kin_motion.specs.Kinetics.{ListsFailing}
use Rattle.kin_motion.specs.Merges.{points_under}
use Rattle.kin_motion.specs.Numbers.{IsIn}
use Rattle.kin_motion.specs.Scene.{Scene, IsReal, Holds}
use Rattle.kin_motion.proofs.ChainLaws.{chain_within}
use Rattle.kin_motion.proofs.SetLaws.{exactly_none}
use Rattle.kin_overlay.specs.Overlays.{Merge}
use Rattle.kin_tourney.specs.declared.doubt.Doubt.{Doubt}
use Rattle.kin_tourney.specs.declared.doubt.Doubt.TheVariants.{Clear, Here}
use Rattle.kin_tourney.specs.Standings.{IsClosed, doubt_in, doubt_count}
use Rattle.kin_tourney.specs.Repairs.{IsLowest}
use Rattle.kin_tourney.proofs.AfterWrite.{read_set}
use Rattle.kin_tourney.proofs.Doubts.{here_is_doubt, count_kept, count_lowered, closed_raised, closed_cleared}
use Rattle.kin_tourney.proofs.Trees.{above_in_doubt}
use Rattle.kin_env.specs.declared.node.Node.{Node}
use Rattle.kin_env.specs.declared.branches.Branches.{Branches}
use Rattle.kin_env.specs.Nodes.{chain_with, facts_with, merge_from, passed_from, edits_from, failed_from, merge_at, passed_at, chain_at, edits_at, failed_at, facts_at}
use Rattle.kin_env.specs.Joints.{Leads, IsJoint, IsSettledThere}
use Rattle.kin_env.specs.Walks.{IsSlotUnder, slot_in, AreJoined, IsInner, IsWalked, IsRight, IsQuieted, IsWorked, IsRenewed}
use Rattle.kin_chain.proofs.NodeChains.{slot_under}
use Rattle.kin_env.proofs.Works.{no_edits, stays_there, live_fits}

-- ---- the doubts after a node is cleared
pub record IsMarked (old new : List Doubt) (v : ℕ) (es : List Edit) : Type 0 where
  pub room : length new ≡ length old
  pub cleared : doubt_in new v ≡ Clear
  pub above : (es ≡ [] → ⊥) → doubt_in new (v / 2) ≡ Here
  pub others : (u : ℕ) → u ≢ v → (doubt_in new u ≡ doubt_in old u) ⊎ ((u ≡ v / 2) × (doubt_in new u ≡ Here))
  pub count : doubt_count new + 1 ≡ doubt_count old
  pub closed : IsClosed new

module _ (ds : List Doubt) (v : ℕ) (n : IsLowest ds v) (closed : IsClosed ds) where
  marked_quiet : IsMarked ds (set ds v Clear) v []
  marked_quiet = record {
    room = length-set ds v Clear;
    cleared = get_or-set_same ds v Clear Clear n.inside;
    above = λ m. absurd (m refl);
    others = λ u m. inl (get_or-set_other ds v u Clear Clear m);
    count = count_lowered ds v n.inside n.doubted;
    closed = closed_cleared ds v closed n.some n.inside n.halves_clear;
  }

module _ (ds : List Doubt) (v : ℕ) (n : IsLowest ds v) (closed : IsClosed ds) where
  abbrev raised : List Doubt
  raised = set ds (v / 2) Here

  up_inside : v / 2 < length ds
  up_inside = let inside = n.inside in omega arith

  up_doubted : doubt_in ds (v / 2) ≢ Clear
  up_doubted = above_in_doubt ds closed v n.some n.doubted

  at_raised : (u : ℕ) → ((u ≡ v / 2) × (doubt_in raised u ≡ Here)) ⊎ ((u ≢ v / 2) × (doubt_in raised u ≡ doubt_in ds u))
  at_raised u = read_set ds (v / 2) u Here Clear up_inside

  abbrev cleared : List Doubt
  cleared = set raised v Clear

  -- a node is ready to be visited where the node above has work, too
  raised_lowest : IsLowest raised v
  raised_lowest = record {
    some = n.some;
    inside = omega (arith, length-set ds (v / 2) Here, n.inside);
    doubted = own (at_raised v);
    halves_clear = λ u some e. half u e (at_raised u) (n.halves_clear u some e);
  }
    where
      own : ((v ≡ v / 2) × (doubt_in raised v ≡ Here)) ⊎ ((v ≢ v / 2) × (doubt_in raised v ≡ doubt_in ds v)) → doubt_in raised v ≢ Clear
      own (inl k) e = here_is_doubt (sym k.1 ∙ e)
      own (inr k) e = n.doubted (sym k.1 ∙ e)

      half : (u : ℕ) → u / 2 ≡ v → ((u ≡ v / 2) × (doubt_in raised u ≡ Here)) ⊎ ((u ≢ v / 2) × (doubt_in raised u ≡ doubt_in ds u)) → doubt_in ds u ≡ Clear → doubt_in raised u ≡ Clear
      half u e (inl k) c = absurd (omega (arith, k.0, e, n.some))
      half u e (inr k) c = k.1 ∙ c

  marked_told : (es : List Edit) → IsMarked ds cleared v es
  marked_told es = record {
    room = q.room ∙ length-set ds (v / 2) Here;
    cleared = q.cleared;
    above = λ m. up (q.others (v / 2) (let some = n.some in omega arith)) (at_raised (v / 2));
    others = λ u m. other u (q.others u m) (at_raised u);
    count = q.count ∙ count_kept ds (v / 2) Here up_inside up_doubted here_is_doubt;
    closed = q.closed;
  }
    where
      q : IsMarked raised cleared v []
      q = marked_quiet raised v raised_lowest (closed_raised ds (v / 2) closed up_inside up_doubted)

      up : (doubt_in cleared (v / 2) ≡ doubt_in raised (v / 2)) ⊎ ((v / 2 ≡ v / 2) × (doubt_in cleared (v / 2) ≡ Here))
          → ((v / 2 ≡ v / 2) × (doubt_in raised (v / 2) ≡ Here)) ⊎ ((v / 2 ≢ v / 2) × (doubt_in raised (v / 2) ≡ doubt_in ds (v / 2))) → doubt_in cleared (v / 2) ≡ Here
      up (inr k) j = k.1
      up (inl k) (inl j) = k ∙ j.1
      up (inl k) (inr j) = absurd (j.0 refl)

      other : (u : ℕ) → (doubt_in cleared u ≡ doubt_in raised u) ⊎ ((u ≡ v / 2) × (doubt_in cleared u ≡ Here))
          → ((u ≡ v / 2) × (doubt_in raised u ≡ Here)) ⊎ ((u ≢ v / 2) × (doubt_in raised u ≡ doubt_in ds u)) → (doubt_in cleared u ≡ doubt_in ds u) ⊎ ((u ≡ v / 2) × (doubt_in cleared u ≡ Here))
      other u (inr k) j = inr k
      other u (inl k) (inl j) = inr (j.0, k ∙ j.1)
      other u (inl k) (inr j) = inl (k ∙ j.1)

  pub marked : (new : List Doubt) (es : List Edit) → (es ≡ [] → new ≡ set ds v Clear) → (es ≢ [] → new ≡ set (set ds (v / 2) Here) v Clear) → IsMarked ds new v es
  marked new [] quiet told = subst (λ (l : List Doubt). IsMarked ds l v []) (sym (quiet refl)) (marked_quiet ds v n closed)
  marked new (e ∷ es) quiet told = subst (λ (l : List Doubt). IsMarked ds l v (e ∷ es)) (sym (told (λ k. absurd cc))) (marked_told (e ∷ es))

-- ---- the nodes
-- facts of a settled merge hold
settled_holds : (s : Scene) (spared : Placed → Bool) (o : Option Merge) → IsSettledThere s o → ListsFailing (facts_with o) spared s []
settled_holds s spared None h = exactly_none _ (λ p k. contains_none p k.0)
settled_holds s spared (Some m) h = exactly_none _ (λ p k. k.2 (let f = (h.exact.each p).0 k.0 in subst (λ (q : Placed). Holds s q.fact) (sym f.fact) refl))

module _ (s : Scene) (real : IsReal s) (t t' : Branches) (w : IsWalked s t) (v : ℕ) (n : IsLowest t.doubts.items v) (before after : Change)
    (size_is : t'.size ≡ t.size) (slots_is : t'.slots.items ≡ t.slots.items)
    (k : IsWorked s t.size v t.nodes.items t'.nodes.items before after) (d : IsMarked t.doubts.items t'.doubts.items v (edits_at t'.nodes.items v)) where
  abbrev ns : List Node
  ns = t.nodes.items

  abbrev ms : List Node
  ms = t'.nodes.items

  abbrev old_doubt : ℕ → Doubt
  old_doubt u = doubt_in t.doubts.items u

  abbrev new_doubt : ℕ → Doubt
  new_doubt u = doubt_in t'.doubts.items u

  fits : (i : ℕ) → IsIn i s.live → i < 2 ^ t.size
  fits = live_fits s t.size t.slots.items w.shape.slots_room w.live

  -- what stays of another node
  record IsKept (u : ℕ) : Type 0 where
    merge : merge_at ms u ≡ merge_at ns u
    passed : passed_at ms u ≡ passed_at ns u
    failed : failed_at ms u ≡ failed_at ns u
    edits : (edits_at ms u ≡ edits_at ns u) ⊎ ((u / 2 ≡ v) × (edits_at ms u ≡ []))

  kept : (u : ℕ) → u ≢ v → IsKept u
  kept u m = at (cases_eq (u / 2) v)
    where
      at : (u / 2 ≡ v) ⊎ (u / 2 ≢ v) → IsKept u
      at (inl e) = let q = k.halves u m e in record { merge = q.merge; passed = q.passed; failed = q.failed; edits = inr (e, q.edits) }
      at (inr n') = let q = k.others u m n' in record { merge = ap merge_from q; passed = ap passed_from q; failed = ap failed_from q; edits = inl (ap edits_from q) }

  chain_kept : (u : ℕ) → u ≢ v → chain_at ms u ≡ chain_at ns u
  chain_kept u m = let q = kept u m in ap₂ chain_with q.merge q.passed

  -- a node that is clear now was so before, but for the one
  clear_was : (u : ℕ) → u ≢ v → new_doubt u ≡ Clear → old_doubt u ≡ Clear
  clear_was u m e = at (d.others u m)
    where
      at : (new_doubt u ≡ old_doubt u) ⊎ ((u ≡ v / 2) × (new_doubt u ≡ Here)) → old_doubt u ≡ Clear
      at (inl q) = sym q ∙ e
      at (inr q) = absurd (here_is_doubt (sym q.1 ∙ e))

  -- and one that was clear is
  clear_is : (u : ℕ) → u ≢ v → old_doubt u ≡ Clear → new_doubt u ≡ Clear
  clear_is u m e = at (d.others u m)
    where
      at : (new_doubt u ≡ old_doubt u) ⊎ ((u ≡ v / 2) × (new_doubt u ≡ Here)) → new_doubt u ≡ Clear
      at (inl q) = q ∙ e
      at (inr q) = absurd (above_in_doubt t.doubts.items w.shape.closed v n.some n.doubted (ap old_doubt (sym q.0) ∙ e))

  idle_was : (u : ℕ) → u ≢ v → new_doubt u ≢ Here → old_doubt u ≢ Here
  idle_was u m h e = at (d.others u m)
    where
      at : (new_doubt u ≡ old_doubt u) ⊎ ((u ≡ v / 2) × (new_doubt u ≡ Here)) → ⊥
      at (inl q) = h (q ∙ e)
      at (inr q) = h q.1

  -- ---- every node has what its halves were
  inner_at : (u : ℕ) → 0 < u → u < 2 ^ t.size → (u ≡ v) ⊎ (u ≢ v) → IsInner t.size ms u
  inner_at u some low (inl e) = subst (IsInner t.size ms) (sym e) own
    where
      inner : v < 2 ^ t.size
      inner = omega arith

      l : IsQuieted ns ms (2 * v)
      l = k.halves (2 * v) (let z = n.some in omega arith) (omega arith)

      r : IsQuieted ns ms (2 * v + 1)
      r = k.halves (2 * v + 1) (omega arith) (omega arith)

      own : IsInner t.size ms v
      own = record {
        a = chain_at ns (2 * v);
        b = chain_at ns (2 * v + 1);
        a_leads = subst (λ (c : List ℕ). Leads (edits_at ms (2 * v)) (chain_at ns (2 * v)) c) (sym (ap₂ chain_with l.merge l.passed)) (stays_there (edits_at ms (2 * v)) (chain_at ns (2 * v)) l.edits);
        b_leads = subst (λ (c : List ℕ). Leads (edits_at ms (2 * v + 1)) (chain_at ns (2 * v + 1)) c) (sym (ap₂ chain_with r.merge r.passed)) (stays_there (edits_at ms (2 * v + 1)) (chain_at ns (2 * v + 1)) r.edits);
        joint = k.inner inner;
        b_under = λ i h. w.joined.under (2 * v + 1) i (omega arith) h;
      }
  inner_at u some low (inr m) = record {
    a = i.a;
    b = i.b;
    a_leads = half (2 * u) (omega arith) i.a i.a_leads;
    b_leads = half (2 * u + 1) (omega arith) i.b i.b_leads;
    joint = subst (λ (o : Option Merge). IsJoint u o (passed_at ms u) i.a i.b) (sym (kept u m).merge) (subst (λ (l : List ℕ). IsJoint u (merge_at ns u) l i.a i.b) (sym (kept u m).passed) i.joint);
    b_under = i.b_under;
  }
    where
      i : IsInner t.size ns u
      i = w.joined.inner u some low

      half : (h : ℕ) → h / 2 ≡ u → (a : List ℕ) → Leads (edits_at ns h) a (chain_at ns h) → Leads (edits_at ms h) a (chain_at ms h)
      half h up a leads = at (cases_eq h v)
        where
          other : h ≢ v → (edits_at ms h ≡ edits_at ns h) ⊎ ((h / 2 ≡ v) × (edits_at ms h ≡ [])) → Leads (edits_at ms h) a (chain_at ms h)
          other p (inl q) = subst (λ (es : List Edit). Leads es a (chain_at ms h)) (sym q) (subst (λ (c : List ℕ). Leads (edits_at ns h) a c) (sym (chain_kept h p)) leads)
          other p (inr q) = absurd (m (sym up ∙ q.0))

          at : (h ≡ v) ⊎ (h ≢ v) → Leads (edits_at ms h) a (chain_at ms h)
          at (inl e) =
              let was = no_edits (edits_at ns v) a (chain_at ns v) (w.untold v n.some n.doubted) (subst (λ x. Leads (edits_at ns x) a (chain_at ns x)) e leads) in
              subst (λ x. Leads (edits_at ms x) a (chain_at ms x)) (sym e) (subst (λ (c : List ℕ). Leads (edits_at ms v) c (chain_at ms v)) (sym was) k.leads)
          at (inr p) = other p (kept h p).edits

  under_at : (u i : ℕ) → 0 < u → (u ≡ v) ⊎ (u ≢ v) → IsIn i (chain_at ms u) → IsSlotUnder t.size u i
  under_at u i some (inl e) h =
      subst (λ x. IsSlotUnder t.size x i) (sym e)
      (slot_under s t.size fits v i (chain_within s (points_under t.size s v) (chain_at ms v) k.right.chain i (subst (λ x. IsIn i (chain_at ms x)) e h)))
  under_at u i some (inr m) h = w.joined.under u i some (subst (λ (c : List ℕ). IsIn i c) (chain_kept u m) h)

  step_joined : AreJoined t.size ms
  step_joined = record {
    under = λ u i some h. under_at u i some (cases_eq u v) h;
    inner = λ u some low. inner_at u some low (cases_eq u v);
    leaves = λ u high. leaf u high (cases_eq u v);
    no_root = let z = n.some in (kept 0 (omega arith)).merge ∙ w.joined.no_root;
  }
    where
      leaf : (u : ℕ) → 2 ^ t.size ≤ u → (u ≡ v) ⊎ (u ≢ v) → merge_at ms u ≡ None
      leaf u high (inl e) = ap (merge_at ms) e ∙ k.leaf (subst (λ x. 2 ^ t.size ≤ x) e high)
      leaf u high (inr m) = (kept u m).merge ∙ w.joined.leaves u high

  -- ---- what waits
  quiet_at : (u : ℕ) → 0 < u → new_doubt (u / 2) ≢ Here → (u ≡ v) ⊎ (u ≢ v) → edits_at ms u ≡ []
  quiet_at u some h (inl e) = ap (edits_at ms) e ∙ none (edits_at ms v) (λ m. h (ap (λ x. new_doubt (x / 2)) e ∙ d.above m))
    where
      none : (es : List Edit) → ((es ≡ [] → ⊥) → ⊥) → es ≡ []
      none [] f = refl
      none (x ∷ es) f = absurd (f (λ q. absurd cc))
  quiet_at u some h (inr m) = at (kept u m).edits (cases_eq (u / 2) v)
    where
      at : (edits_at ms u ≡ edits_at ns u) ⊎ ((u / 2 ≡ v) × (edits_at ms u ≡ [])) → (u / 2 ≡ v) ⊎ (u / 2 ≢ v) → edits_at ms u ≡ []
      at (inr q) j = q.1
      at (inl q) (inl j) = (k.halves u m j).edits
      at (inl q) (inr j) = q ∙ w.quiet u some (idle_was (u / 2) j h)

  untold_at : (u : ℕ) → 0 < u → new_doubt u ≢ Clear → (u ≡ v) ⊎ (u ≢ v) → edits_at ms u ≡ []
  untold_at u some h (inl e) = absurd (h (ap new_doubt e ∙ d.cleared))
  untold_at u some h (inr m) = at (kept u m).edits
    where
      at : (edits_at ms u ≡ edits_at ns u) ⊎ ((u / 2 ≡ v) × (edits_at ms u ≡ [])) → edits_at ms u ≡ []
      at (inr q) = q.1
      at (inl q) = q ∙ w.untold u some (λ e. h (clear_is u m e))

  unfailed_at : (u : ℕ) → 0 < u → new_doubt u ≢ Here → (u ≡ v) ⊎ (u ≢ v) → failed_at ms u ≡ []
  unfailed_at u some h (inl e) = ap (failed_at ms) e ∙ k.failed
  unfailed_at u some h (inr m) = (kept u m).failed ∙ w.unfailed u some (idle_was u m h)

  failing_at : (u : ℕ) → 0 < u → (u ≡ v) ⊎ (u ≢ v) → ListsFailing (facts_at ms u) w.spared s (failed_at ms u)
  failing_at u some (inl e) =
      subst (λ x. ListsFailing (facts_at ms x) w.spared s (failed_at ms x)) (sym e)
      (subst (λ (l : List Placed). ListsFailing (facts_at ms v) w.spared s l) (sym k.failed) (settled_holds s w.spared (merge_at ms v) k.right.now))
  failing_at u some (inr m) =
      subst (λ (l : List Placed). ListsFailing (facts_at ms u) w.spared s l) (sym (kept u m).failed)
      (subst (λ (o : Option Merge). ListsFailing (facts_with o) w.spared s (failed_at ns u)) (sym (kept u m).merge) (w.failing u some))

  right_at : (u : ℕ) → 0 < u → u < 2 * 2 ^ t.size → new_doubt u ≡ Clear → (u ≡ v) ⊎ (u ≢ v) → IsRight s t.size ms u
  right_at u some low h (inl e) = subst (IsRight s t.size ms) (sym e) k.right
  right_at u some low h (inr m) =
      let r = w.right u some low (clear_was u m h) in
      record {
        chain = subst (λ (c : List ℕ). IsUpperChain s (points_under t.size s u) c) (sym (chain_kept u m)) r.chain;
        now = subst (IsSettledThere s) (sym (kept u m).merge) r.now;
      }

  pub step_walked : IsWalked s t'
  step_walked = record {
    shape = record {
      some = subst (λ x. 1 ≤ x) (sym size_is) w.shape.some;
      small = subst (λ x. x ≤ 15) (sym size_is) w.shape.small;
      slots_room = ap length slots_is ∙ w.shape.slots_room ∙ ap (λ x. 2 ^ x) (sym size_is);
      nodes_room = k.room ∙ w.shape.nodes_room ∙ ap (λ x. 2 * 2 ^ x) (sym size_is);
      doubts_room = d.room ∙ w.shape.doubts_room ∙ ap (λ x. 2 * 2 ^ x) (sym size_is);
      closed = d.closed;
    };
    joined = subst (λ x. AreJoined x ms) (sym size_is) step_joined;
    live = λ i. w.live i ∙ ap (λ l. slot_in l i) (sym slots_is);
    quiet = λ u some h. quiet_at u some h (cases_eq u v);
    untold = λ u some h. untold_at u some h (cases_eq u v);
    unfailed = λ u some h. unfailed_at u some h (cases_eq u v);
    spared = w.spared;
    are_spared = w.are_spared;
    failing = λ u some. failing_at u some (cases_eq u v);
    right = λ u some low h. subst (λ x. IsRight s x ms u) (sym size_is) (right_at u some (subst (λ x. u < 2 * 2 ^ x) size_is low) h (cases_eq u v));
  }

  pub step_renewed : IsRenewed v t t' before after
  step_renewed = record {
    same_size = size_is;
    same_slots = slots_is;
    cleared = d.cleared;
    others = λ u m h e. h (clear_was u m e);
    clear_stays = clear_is;
    count = d.count;
    merge = λ u m. (kept u m).merge;
    chain = chain_kept;
    changed = k.changed;
  }

-- the two parts of a step together
pub renewed_by : (s : Scene) (real : IsReal s) (t y x : Branches) (w : IsWalked s t) (v : ℕ) (n : IsLowest t.doubts.items v) (before after : Change) → y ≡ record t { nodes = y.nodes } → x ≡ record y { doubts = x.doubts }
    → IsWorked s t.size v t.nodes.items y.nodes.items before after → (edits_at y.nodes.items v ≡ [] → x.doubts.items ≡ set y.doubts.items v Clear) → (edits_at y.nodes.items v ≢ [] → x.doubts.items ≡ set (set y.doubts.items (v / 2) Here) v Clear)
    → IsWalked s x × IsRenewed v t x before after
renewed_by s real t y x w v n before after y_is x_is k quiet told =
    (step_walked s real t x w v n before after size_is slots_is worked marks, step_renewed s real t x w v n before after size_is slots_is worked marks)
  where
    size_is : x.size ≡ t.size
    size_is = ap (λ (b : Branches). b.size) x_is ∙ ap (λ (b : Branches). b.size) y_is

    slots_is : x.slots.items ≡ t.slots.items
    slots_is = ap (λ (b : Branches). b.slots.items) x_is ∙ ap (λ (b : Branches). b.slots.items) y_is

    nodes_is : x.nodes.items ≡ y.nodes.items
    nodes_is = ap (λ (b : Branches). b.nodes.items) x_is

    doubts_is : y.doubts.items ≡ t.doubts.items
    doubts_is = ap (λ (b : Branches). b.doubts.items) y_is

    worked : IsWorked s t.size v t.nodes.items x.nodes.items before after
    worked = subst (λ (ns : List Node). IsWorked s t.size v t.nodes.items ns before after) (sym nodes_is) k

    marks : IsMarked t.doubts.items x.doubts.items v (edits_at x.nodes.items v)
    marks =
        subst (λ (ns : List Node). IsMarked t.doubts.items x.doubts.items v (edits_at ns v)) (sym nodes_is)
        (marked t.doubts.items v n w.shape.closed x.doubts.items (edits_at y.nodes.items v)
        (λ e. quiet e ∙ ap (λ (l : List Doubt). set l v Clear) doubts_is)
        (λ m. told m ∙ ap (λ (l : List Doubt). set (set l (v / 2) Here) v Clear) doubts_is))
