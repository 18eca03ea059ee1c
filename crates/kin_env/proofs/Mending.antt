-- A merge is given the edits of its halves, and is repaired.
use Rattle.std.proofs.Common.{◌≡◌, ◌≢◌, refl, sym, ap, ◌∙◌, subst, List, [], ℕ, ◌<◌, length, true, false}
use Rattle.std.specs.Prelude.{Option, Some, None, is_some, IsSomeAnd}
use Rattle.kin_motion.specs.declared.fact.Placed.{Placed}
use Rattle.kin_motion.specs.Chains.{IsUpperChain}
use Rattle.kin_motion.specs.Deltas.{Change}
use Rattle.kin_motion.specs.Edits.{Edit, all_edited, AreFitting}
use Rattle.kin_motion.specs.Kinetics.{ListsFailing, HasChanged}
use Rattle.kin_motion.specs.Scene.{Scene, IsReal}
use Rattle.kin_overlay.specs.declared.half.Half.TheVariants.{A, B}
use Rattle.kin_overlay.specs.declared.stage.Stage.{Stage}
use Rattle.kin_overlay.specs.declared.stage.Stage.TheVariants.{Rest, Told, Broken}
use Rattle.kin_overlay.specs.Diffs.{KeepOrder, ArePutApart}
use Rattle.kin_overlay.specs.Fingers.{AreLess, AreLive}
use Rattle.kin_overlay.specs.Overlays.{Merge, ArePutsApart, IsAtRest, IsReady, IsSameMerge, IsSettled, IsUnedited, told}
use Rattle.kin_env.specs.declared.node.Node.{Node}
use Rattle.kin_env.specs.Nodes.{chain_of, chain_with, facts_with}
use Rattle.kin_env.specs.Joints.{Leads, IsMergeOf, IsJoint, IsSettledThere, IsMergeTold, IsTold, IsVisited}
use Rattle.kin_env.proofs.Paid.{puts_apart}

-- edits between two lists lead from the one to the other
pub leads_between : {es : List Edit} {old new old' new' : List ℕ} → old ≡ old' → new ≡ new' → AreFitting es old → all_edited es old ≡ new → (KeepOrder old new → ArePutApart es old) → Leads es old' new'
leads_between {es} {old} {new} {old'} {new'} e f fit lead apart = subst (λ (l : List ℕ). Leads es l new') e (subst (λ (l : List ℕ). Leads es old l) f (record { fit = fit; lead = lead; apart = apart }))

-- the merge that is given the edits of both halves, with other edits of its own
pub edited_twice : (m : Merge) {m1 m2 m3 : Merge} {ea eb es xs ys : List Edit} → xs ≡ ea → ys ≡ eb → m1 ≡ told A xs m → m2 ≡ told B ys m1 → m3 ≡ record m2 { edits = es } → m3 ≡ record (told B eb (told A ea m)) { edits = es }
edited_twice m {m1} {m2} {m3} {ea} {eb} {es} {xs} {ys} a_same b_same first second third =
    third ∙ ap (λ (n : Merge). record n { edits = es }) (second ∙ ap (told B ys) first ∙ ap (λ (l : List Edit). told B l (told A xs m)) b_same ∙ ap (λ (l : List Edit). told B eb (told A l m)) a_same)

edited_whole : {s : Stage} → s ≡ Told → s ≢ Broken
edited_whole {s} e f = absurd (let z : Told ≡ Broken = sym e ∙ f in cc)

module _ {v : ℕ} {s : Scene} {m : Merge} {failed : List Placed} {left right : Node} (t : IsMergeTold v s m failed left right) where
  a_leads : Leads left.edits.items m.a (chain_of left)
  a_leads = subst (λ (l : List ℕ). Leads left.edits.items l (chain_of left)) (sym t.of.a_is) t.a_leads

  b_leads : Leads right.edits.items m.b (chain_of right)
  b_leads = subst (λ (l : List ℕ). Leads right.edits.items l (chain_of right)) (sym t.of.b_is) t.b_leads

  pub whole : m.stage ≢ Broken
  whole e = absurd (let z : Rest ≡ Broken = sym t.of.rest ∙ e in cc)

  pub a_fit : {ea : List Edit} → ea ≡ left.edits.items → AreFitting ea m.a
  a_fit {ea} same = subst (λ (es : List Edit). AreFitting es m.a) (sym same) a_leads.fit

  pub a_less : {ea : List Edit} → ea ≡ left.edits.items → AreLess (all_edited ea m.a) m.b
  a_less {ea} same =
      subst (λ (es : List Edit). AreLess (all_edited es m.a) m.b) (sym same)
      (subst (λ (l : List ℕ). AreLess l m.b) (sym a_leads.lead) (subst (λ (l : List ℕ). AreLess (chain_of left) l) (sym t.of.b_is) t.less))

  -- after the first edits
  module _ {ea eb : List Edit} {m1 : Merge} (a_same : ea ≡ left.edits.items) (b_same : eb ≡ right.edits.items) (first : m1 ≡ told A ea m) where
    is_then : m1 ≡ told A left.edits.items m
    is_then = first ∙ ap (λ (es : List Edit). told A es m) a_same

    pub whole_then : m1.stage ≢ Broken
    whole_then = edited_whole (ap (λ (n : Merge). n.stage) first)

    pub b_fit : AreFitting eb m1.b
    b_fit = subst (λ (es : List Edit). AreFitting es m1.b) (sym b_same) (subst (λ (n : Merge). AreFitting right.edits.items n.b) (sym is_then) b_leads.fit)

    pub b_less : AreLess m1.a (all_edited eb m1.b)
    b_less =
        subst (λ (es : List Edit). AreLess m1.a (all_edited es m1.b)) (sym b_same)
        (subst (λ (n : Merge). AreLess n.a (all_edited right.edits.items n.b)) (sym is_then)
        (subst (λ (l : List ℕ). AreLess l (all_edited right.edits.items m.b)) (sym a_leads.lead) (subst (λ (l : List ℕ). AreLess (chain_of left) l) (sym b_leads.lead) t.halves.less)))

  -- after both
  module _ {es : List Edit} {m3 : Merge} (is : m3 ≡ record (told B right.edits.items (told A left.edits.items m)) { edits = es }) where
    a_is : m3.a ≡ chain_of left
    a_is = ap (λ (n : Merge). n.a) is ∙ a_leads.lead

    b_is : m3.b ≡ chain_of right
    b_is = ap (λ (n : Merge). n.b) is ∙ b_leads.lead

    pub ready : 0 < length (chain_of left) → 0 < length (chain_of right) → IsReady m3 s
    ready left_some right_some = record {
      whole = edited_whole (ap (λ (n : Merge). n.stage) is);
      a_some = subst (λ (l : List ℕ). 0 < length l) (sym a_is) left_some;
      b_some = subst (λ (l : List ℕ). 0 < length l) (sym b_is) right_some;
      a_live = subst (AreLive s.live) (sym a_is) t.halves.a_live;
      b_live = subst (AreLive s.live) (sym b_is) t.halves.b_live;
      a_chain = subst (λ (l : List ℕ). IsUpperChain s l l) (sym a_is) t.halves.a_chain;
      b_chain = subst (λ (l : List ℕ). IsUpperChain s l l) (sym b_is) t.halves.b_chain;
    }

    -- its edits put no number that they drop, where its chains keep their order
    pub apart : KeepOrder m.a (chain_of left) → KeepOrder m.b (chain_of right) → ArePutsApart m3
    apart k l =
        let h = puts_apart m t.of.unedited (chain_of left) (chain_of right) left.edits.items right.edits.items a_leads b_leads k l in
        subst ArePutsApart (sym is) (record { a = h.a; b = h.b })

    -- and after the repair
    module _ {m4 : Merge} (same : IsSameMerge m3 m4) {xs : List Edit} {m5 : Merge} (last : m5 ≡ record m4 { edits = xs }) where
      pub mended : IsReal s → IsAtRest m4 → IsUnedited m4 → IsSettled m4 s → IsMergeOf v m5 (chain_of left) (chain_of right)
      mended real rest unedited settled = subst (λ (n : Merge). IsMergeOf v n (chain_of left) (chain_of right)) (sym last) (record {
        rest = rest;
        unedited = record { put_a = unedited.put_a; put_b = unedited.put_b; drop_a = unedited.drop_a; drop_b = unedited.drop_b };
        part = same.part ∙ ap (λ (n : Merge). n.part) is ∙ t.of.part;
        a_is = same.a ∙ a_is;
        b_is = same.b ∙ b_is;
        before = s;
        real = real;
        settled = settled;
      })

      pub mended_now : IsSettled m4 s → IsSettled m5 s
      mended_now settled = subst (λ (n : Merge). IsSettled n s) (sym last) settled

      pub mended_leads : {ys : List Edit} → ys ≡ m4.edits → AreFitting m4.edits m3.chain → all_edited m4.edits m3.chain ≡ m4.chain → (KeepOrder m3.chain m4.chain → ArePutApart m4.edits m3.chain) → Leads ys m.chain m5.chain
      mended_leads {ys} taken fit lead apart = subst (λ (l : List Edit). Leads l m.chain m5.chain) (sym taken) (leads_between (ap (λ (n : Merge). n.chain) is) (sym (ap (λ (n : Merge). n.chain) last)) fit lead apart)

      pub mended_facts : {before after : Change} → HasChanged m3.facts m4.facts before after → HasChanged m.facts m5.facts before after
      mended_facts {before} {after} changed =
          subst (λ (n : Merge). HasChanged n.facts m5.facts before after) is (subst (λ (n : Merge). HasChanged m3.facts n.facts before after) (sym last) changed)

-- ---- a node, which may have a merge
pub no_merge : (o : Option Merge) → is_some o ≡ false → o ≡ None
no_merge None e = refl
no_merge (Some m) e = absurd cc

is_there : (P : Merge → Type 0) (o : Option Merge) → IsSomeAnd o P → is_some o ≡ true
is_there P (Some m) p = refl
is_there P None p = absurd p

-- the merge of a told node is told
pub merge_told : {v : ℕ} {s : Scene} {node left right : Node} → is_some node.merge ≡ true → IsTold v s node left right → IsSomeAnd node.merge (λ m. IsMergeTold v s m node.failed.items left right)
merge_told {v} {s} {node} {left} {right} some t = at node.merge some t.joint t.failing
  where
    at : (o : Option Merge) → is_some o ≡ true → IsJoint v o node.passed.items t.a t.b → ListsFailing (facts_with o) t.spared s node.failed.items → IsSomeAnd o (λ m. IsMergeTold v s m node.failed.items left right)
    at None some of failing = absurd cc
    at (Some m) some of failing = record { a = t.a; b = t.b; a_leads = t.a_leads; b_leads = t.b_leads; of = of; less = t.less; halves = t.halves; spared = t.spared; are_spared = t.are_spared; failing = failing }

-- what a node passes on besides doesn't matter where it has a merge
joint_there : (v : ℕ) (a b : List ℕ) (o : Option Merge) (xs : List ℕ) → IsSomeAnd o (λ m. IsMergeOf v m a b) → IsJoint v o xs a b
joint_there v a b (Some m) xs of = of
joint_there v a b None xs of = absurd of

chain_there : (o : Option Merge) (xs : List ℕ) → is_some o ≡ true → chain_with o [] ≡ chain_with o xs
chain_there (Some m) xs some = refl
chain_there None xs some = absurd cc

-- a node is visited where its merge is mended
pub mended_node : {v : ℕ} {s : Scene} {old new left right : Node} {before after : Change} → is_some old.merge ≡ true → IsSomeAnd new.merge (λ m. IsMergeOf v m (chain_of left) (chain_of right)) → IsSettledThere s new.merge
    → Leads new.edits.items (chain_with old.merge []) (chain_with new.merge []) → new.failed.items ≡ [] → HasChanged (facts_with old.merge) (facts_with new.merge) before after → IsVisited v s old new left right before after
mended_node {v} {s} {old} {new} {left} {right} some of settled leads failed changed = record {
  joint = joint_there v (chain_of left) (chain_of right) new.merge new.passed.items of;
  now = settled;
  leads =
      subst (λ (l : List ℕ). Leads new.edits.items l (chain_of new)) (chain_there old.merge old.passed.items some)
      (subst (λ (l : List ℕ). Leads new.edits.items (chain_with old.merge []) l) (chain_there new.merge new.passed.items (is_there (λ m. IsMergeOf v m (chain_of left) (chain_of right)) new.merge of)) leads);
  failed = failed;
  changed = changed;
}
