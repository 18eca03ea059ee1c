-- Facts are given to nodes, slots are marked, and a tree begins without points.
use Rattle.std.proofs.Common.{◌≡◌, ◌≢◌, ◌⊎◌, inl, inr, refl, sym, ap, ap₂, ◌∙◌, subst, arith, List, [], ◌∷◌, ◌++◌, ℕ, ◌+◌, ◌*◌, ◌^◌, ◌<◌, ◌≤◌, length, Bool, true, false, cond, nat_eq, set, get_or, replicate}
use Rattle.std.specs.Prelude.{Option, Some, slice_get, filter}
use Rattle.std.proofs.lemmas.Bool.{cases_eq}
use Rattle.std.proofs.lemmas.Bool.Decides.{nat_tests}
use Rattle.std.proofs.lemmas.List.{append_assoc, length-set, length-replicate, get_or-set_other, append-nil}
use Rattle.std.proofs.lemmas.List.Elements.{filter-append}
use Rattle.std.proofs.Math.Pow.{pow_pos}
use Rattle.kin_algebra.proofs.Places.{get-set_same, get-set_other, get_or-replicate_any}
use Rattle.kin_motion.specs.declared.fact.Placed.{Placed}
use Rattle.kin_tourney.specs.declared.doubt.Doubt.{Doubt}
use Rattle.kin_tourney.specs.declared.doubt.Doubt.TheVariants.{Clear, Below, Here}
use Rattle.kin_tourney.specs.Standings.{IsClosed, doubt_in}
use Rattle.kin_tourney.specs.Repairs.{IsSpread}
use Rattle.kin_tourney.proofs.Fresh.{fresh_clear, fresh_closed}
use Rattle.kin_env.specs.declared.node.Node.{Node}
use Rattle.kin_env.specs.declared.branches.Branches.{Branches}
use Rattle.kin_env.specs.Nodes.{chain_with, merge_from, passed_from, edits_from, failed_from, passed_at, chain_at, edits_at, failed_at}
use Rattle.kin_env.specs.Joints.{Leads, IsJoint}
use Rattle.kin_env.proofs.Works.{stays_there}
use Rattle.kin_motion.specs.Numbers.{is_in}
use Rattle.kin_overlay.specs.Overlays.{Merge}
use Rattle.kin_env.specs.Walks.{slot_in, own_chain, AreJoined, IsSound, AreGiven, AreBlank}
use Rattle.kin_env.proofs.Hearing.{read_there}

-- ---- facts that are given
pub none_given : (ns : List Node) → AreGiven ns ns []
none_given ns = record { merge = λ v. refl; passed = λ v. refl; edits = λ v. refl; failed = λ v. sym (append-nil (failed_at ns v)) }

pub given_more : (old ns : List Node) (facts more : List Placed) (p : Placed) (n n' : Node) → more ≡ facts ++ p ∷ [] → p.part < length ns → n ≡ get_or ns p.part n → n'.merge ≡ n.merge → n'.passed.items ≡ n.passed.items → n'.edits.items ≡ n.edits.items
    → n'.failed.items ≡ n.failed.items ++ p ∷ [] → AreGiven old ns facts → AreGiven old (set ns p.part n') more
given_more old ns facts more p n n' grown inside there merge passed edits failed g = record {
  merge = λ v. by v (λ (o : Option Node). merge_from o) merge ∙ g.merge v;
  passed = λ v. by v (λ (o : Option Node). passed_from o) passed ∙ g.passed v;
  edits = λ v. by v (λ (o : Option Node). edits_from o) edits ∙ g.edits v;
  failed = λ v. failed_is v (cases_eq v p.part) ∙ ap (λ (l : List Placed). failed_at old v ++ filter (λ q. nat_eq q.part v) l) (sym grown);
}
  where
    read : slice_get ns p.part ≡ Some n
    read = read_there ns p.part n inside there

    now : slice_get (set ns p.part n') p.part ≡ Some n'
    now = get-set_same ns p.part n' inside

    by : {A : Type 0} (v : ℕ) (f : Option Node → A) → f (Some n') ≡ f (Some n) → f (slice_get (set ns p.part n') v) ≡ f (slice_get ns v)
    by {A} v f e = at (cases_eq v p.part)
      where
        at : (v ≡ p.part) ⊎ (v ≢ p.part) → f (slice_get (set ns p.part n') v) ≡ f (slice_get ns v)
        at (inl q) = subst (λ u. f (slice_get (set ns p.part n') u) ≡ f (slice_get ns u)) (sym q) (ap f now ∙ e ∙ sym (ap f read))
        at (inr m) = ap f (get-set_other ns p.part v n' m)

    one : (v : ℕ) (b : Bool) → nat_eq p.part v ≡ b → filter (λ (q : Placed). nat_eq q.part v) (p ∷ []) ≡ cond b (p ∷ []) []
    one v b e = ap (λ c. cond c (p ∷ []) []) e

    failed_is : (v : ℕ) → (v ≡ p.part) ⊎ (v ≢ p.part) → failed_at (set ns p.part n') v ≡ failed_at old v ++ filter (λ q. nat_eq q.part v) (facts ++ p ∷ [])
    failed_is v (inl q) =
        ap (failed_at (set ns p.part n')) q ∙ ap failed_from now ∙ failed ∙ ap (λ (l : List Placed). l ++ p ∷ []) (sym (ap failed_from read) ∙ ap (failed_at ns) (sym q) ∙ g.failed v)
        ∙ append_assoc (failed_at old v) (filter (λ q. nat_eq q.part v) facts) (p ∷ [])
        ∙ ap (λ (l : List Placed). failed_at old v ++ l) (ap (λ (l : List Placed). filter (λ q. nat_eq q.part v) facts ++ l) (sym (one v true (grind (arith, nat_tests, q)))) ∙ sym (filter-append (λ (q : Placed). nat_eq q.part v) facts (p ∷ [])))
    failed_is v (inr m) =
        ap failed_from (get-set_other ns p.part v n' m) ∙ g.failed v
        ∙ ap (λ (l : List Placed). failed_at old v ++ l) (sym (filter-append (λ (q : Placed). nat_eq q.part v) facts (p ∷ []) ∙ ap (λ (l : List Placed). filter (λ q. nat_eq q.part v) facts ++ l) (one v false (grind (arith, nat_tests, m))) ∙ append-nil (filter (λ q. nat_eq q.part v) facts)))

-- ---- a slot is marked
pub marked_sound : (t x : Branches) (slot : ℕ) (held : Bool) → IsSound t → slot < 2 ^ t.size → x.size ≡ t.size → x.slots.items ≡ set t.slots.items slot held → x.nodes.items ≡ t.nodes.items → IsClosed x.doubts.items
    → IsSpread t.doubts.items x.doubts.items Below (length t.slots.items + slot) → IsSound x
marked_sound t x slot held sound low size_is slots_is nodes_is closed spread = record {
  shape = record {
    some = subst (λ n. 1 ≤ n) (sym size_is) sound.shape.some;
    small = subst (λ n. n ≤ 15) (sym size_is) sound.shape.small;
    slots_room = ap length slots_is ∙ length-set t.slots.items slot held ∙ sound.shape.slots_room ∙ ap (λ n. 2 ^ n) (sym size_is);
    nodes_room = ap length nodes_is ∙ sound.shape.nodes_room ∙ ap (λ n. 2 * 2 ^ n) (sym size_is);
    doubts_room = spread.room ∙ sound.shape.doubts_room ∙ ap (λ n. 2 * 2 ^ n) (sym size_is);
    closed = closed;
  };
  joined = subst (λ n. AreJoined n x.nodes.items) (sym size_is) (subst (λ (l : List Node). AreJoined t.size l) (sym nodes_is) sound.joined);
  quiet = λ v some. ap (λ (l : List Node). edits_at l v) nodes_is ∙ sound.quiet v some;
  unfailed = λ v some. ap (λ (l : List Node). failed_at l v) nodes_is ∙ sound.unfailed v some;
  undoubted = λ v some e. not_here v some e (spread.each v);
  clear_leaves = λ i inside e.
      subst (λ n. chain_at x.nodes.items (2 ^ n + i) ≡ own_chain i (slot_in x.slots.items i)) (sym size_is)
      (ap (λ (l : List Node). chain_at l (2 ^ t.size + i)) nodes_is ∙ leaf i (subst (λ n. i < 2 ^ n) size_is inside) (subst (λ n. doubt_in x.doubts.items (2 ^ n + i) ≡ Clear) size_is e) (cases_eq i slot) (spread.each (2 ^ t.size + i)));
}
  where
    not_here : (v : ℕ) → 0 < v → doubt_in x.doubts.items v ≡ Here → (doubt_in x.doubts.items v ≡ doubt_in t.doubts.items v) ⊎ ((doubt_in t.doubts.items v ≡ Clear) × (doubt_in x.doubts.items v ≡ Below)) → ⊥
    not_here v some e (inl same) = sound.undoubted v some (sym same ∙ e)
    not_here v some e (inr both) = absurd (let z : Below ≡ Here = sym both.1 ∙ e in cc)

    leaf : (i : ℕ) → i < 2 ^ t.size → doubt_in x.doubts.items (2 ^ t.size + i) ≡ Clear → (i ≡ slot) ⊎ (i ≢ slot)
        → (doubt_in x.doubts.items (2 ^ t.size + i) ≡ doubt_in t.doubts.items (2 ^ t.size + i)) ⊎ ((doubt_in t.doubts.items (2 ^ t.size + i) ≡ Clear) × (doubt_in x.doubts.items (2 ^ t.size + i) ≡ Below)) → chain_at t.nodes.items (2 ^ t.size + i) ≡ own_chain i (slot_in x.slots.items i)
    leaf i inside e (inl q) each = absurd (spread.reached (subst (λ n. doubt_in x.doubts.items n ≡ Clear) (let k = sound.shape.slots_room in let z : 2 ^ t.size + i ≡ length t.slots.items + slot = omega arith in z) e))
    leaf i inside e (inr m) (inl same) = sound.clear_leaves i inside (sym same ∙ e) ∙ ap (own_chain i) (sym (ap (λ (l : List Bool). slot_in l i) slots_is ∙ get_or-set_other t.slots.items slot i held false m))
    leaf i inside e (inr m) (inr both) = absurd (let z : Below ≡ Clear = sym both.1 ∙ e in cc)

-- ---- a tree without points
pub blank_sound : (t : Branches) → 1 ≤ t.size → t.size ≤ 15 → t.slots.items ≡ replicate (2 ^ t.size) false → length t.nodes.items ≡ 2 * 2 ^ t.size → AreBlank t.nodes.items → t.doubts.items ≡ set (replicate (2 * 2 ^ t.size) Clear) 0 Here → IsSound t
blank_sound t some small slots_is room blank doubts_is = record {
  shape = record {
    some = some;
    small = small;
    slots_room = ap length slots_is ∙ length-replicate (2 ^ t.size) false;
    nodes_room = room;
    doubts_room = ap length doubts_is ∙ length-set (replicate (2 * 2 ^ t.size) Clear) 0 Here ∙ length-replicate (2 * 2 ^ t.size) Clear;
    closed = subst (λ (l : List Doubt). IsClosed l) (sym doubts_is) (fresh_closed (2 * 2 ^ t.size) (omega (arith, pow_pos t.size)));
  };
  joined = record {
    under = λ v i big h. absurd (let z : false ≡ true = sym (ap (λ (l : List ℕ). is_in i l) (chain_none v)) ∙ h in cc);
    inner = λ v big low. record {
      a = [];
      b = [];
      a_leads = nowhere (2 * v);
      b_leads = nowhere (2 * v + 1);
      joint = subst (λ (o : Option Merge). IsJoint v o (passed_at t.nodes.items v) [] []) (sym (blank.merge v)) (inl (refl, blank.passed v));
      b_under = λ i h. absurd (let z : false ≡ true = h in cc);
    };
    leaves = λ v high. blank.merge v;
    no_root = blank.merge 0;
  };
  quiet = λ v big. blank.edits v;
  unfailed = λ v big. blank.failed v;
  undoubted = λ v big e. absurd (let z : Clear ≡ Here = sym (clear_at v big) ∙ e in cc);
  clear_leaves = λ i low e. chain_none (2 ^ t.size + i) ∙ ap (own_chain i) (sym (ap (λ (l : List Bool). slot_in l i) slots_is ∙ get_or-replicate_any (2 ^ t.size) i false));
}
  where
    clear_at : (v : ℕ) → 0 < v → doubt_in t.doubts.items v ≡ Clear
    clear_at v big = ap (λ l. doubt_in l v) doubts_is ∙ fresh_clear (2 * 2 ^ t.size) v big

    chain_none : (v : ℕ) → chain_at t.nodes.items v ≡ []
    chain_none v = ap₂ chain_with (blank.merge v) (blank.passed v)

    nowhere : (v : ℕ) → Leads (edits_at t.nodes.items v) [] (chain_at t.nodes.items v)
    nowhere v = subst (λ (c : List ℕ). Leads (edits_at t.nodes.items v) [] c) (sym (chain_none v)) (stays_there (edits_at t.nodes.items v) [] (blank.edits v))
