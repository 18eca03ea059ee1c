-- A node without a merge that goes on passing on the chain of its left half.
use Rattle.std.proofs.Common.{◌≡◌, ◌⊎◌, inl, inr, refl, sym, ap, ◌∙◌, subst, arith, List, [], ℕ, set, get_or}
use Rattle.std.specs.Prelude.{Option, Some, None}
use Rattle.std.proofs.lemmas.List.{get_or-set_other, set-get_or}
use Rattle.kin_motion.proofs.ChangeLaws.{nothing_changed}
use Rattle.kin_motion.specs.Deltas.{Change}
use Rattle.kin_motion.specs.Edits.{Edit, all_edited}
use Rattle.kin_motion.specs.Kinetics.{HasChanged}
use Rattle.kin_motion.specs.Scene.{Scene}
use Rattle.kin_overlay.specs.Overlays.{Merge}
use Rattle.kin_env.specs.declared.node.Node.{Node}
use Rattle.kin_env.specs.Joints.{Leads, IsJoint, IsSettledThere, IsTold, IsVisited}
use Rattle.kin_env.specs.Nodes.{chain_with, chain_of, facts_with}
use Rattle.kin_env.proofs.Tellings.{none_failed}

-- a node that passes on the chain of one half, where the other one is empty
pub one_kept : (v : ℕ) (s : Scene) (old new left right : Node) (before after : Change) (xs : List ℕ) → new.merge ≡ None → new.passed.items ≡ xs → ((chain_of left ≡ []) × (xs ≡ chain_of right)) ⊎ ((chain_of right ≡ []) × (xs ≡ chain_of left))
    → Leads new.edits.items (chain_of old) xs → new.failed.items ≡ [] → HasChanged (facts_with old.merge) [] before after → IsVisited v s old new left right before after
one_kept v s old new left right before after xs none passed one leads idle changed = record {
  joint =
      subst (λ (m : Option Merge). IsJoint v m new.passed.items (chain_of left) (chain_of right)) (sym none)
      (subst (λ (l : List ℕ). ((chain_of left ≡ []) × (l ≡ chain_of right)) ⊎ ((chain_of right ≡ []) × (l ≡ chain_of left))) (sym passed) one);
  now = subst (λ (m : Option Merge). IsSettledThere s m) (sym none) tt;
  leads = subst (λ (l : List ℕ). Leads new.edits.items (chain_of old) l) (sym (ap (λ (m : Option Merge). chain_with m new.passed.items) none ∙ passed)) leads;
  failed = idle;
  changed = subst (λ (m : Option Merge). HasChanged (facts_with old.merge) (facts_with m) before after) (sym none) changed;
}

-- a half without edits that is empty was empty before
was_empty : (es : List Edit) (old new : List ℕ) → Leads es old new → es ≡ [] → new ≡ [] → old ≡ []
was_empty es old new leads none empty = ap (λ (l : List Edit). all_edited l old) (sym none) ∙ leads.lead ∙ empty

-- where the right half was empty, the chain that was passed on is that of the left one
passed_left : (v : ℕ) (merge : Option Merge) (xs a b : List ℕ) → IsJoint v merge xs a b → merge ≡ None → b ≡ [] → chain_with merge xs ≡ a
passed_left v None xs a b (inl (none, is)) e empty = is ∙ empty ∙ sym none
passed_left v None xs a b (inr (none, is)) e empty = is
passed_left v (Some m) xs a b joint e empty = absurd cc

-- so the edits of the left half lead from it
pub followed : (v : ℕ) (s : Scene) (old new left right : Node) (out : Change) → IsTold v s old left right → old.merge ≡ None → right.edits.items ≡ [] → chain_of right ≡ []
    → new.merge ≡ old.merge → new.passed.items ≡ chain_of left → new.edits.items ≡ left.edits.items → new.failed.items ≡ old.failed.items → IsVisited v s old new left right out out
followed v s old new left right out t none quiet empty merge passed edits failed =
    let was = passed_left v old.merge old.passed.items t.a t.b t.joint none (was_empty right.edits.items t.b (chain_of right) t.b_leads quiet empty) in
    one_kept v s old new left right out out (chain_of left) (merge ∙ none) passed (inr (empty, refl))
    (subst (λ (es : List Edit). Leads es (chain_of old) (chain_of left)) (sym edits) (subst (λ (l : List ℕ). Leads left.edits.items l (chain_of left)) (sym was) t.a_leads))
    (failed ∙ none_failed old.merge t.spared s old.failed.items t.failing none)
    (subst (λ (m : Option Merge). HasChanged (facts_with m) [] out out) (sym none) (nothing_changed [] out))

-- the right half is as it was, where only the left one was changed
pub right_there : (below : List Node) (left r : Node) → r ≡ get_or below 1 r → r ≡ get_or (set below 0 left) 1 r
right_there below left r e = e ∙ sym (get_or-set_other below 0 1 left r (omega arith))

pub right_stays : (below : List Node) (left r : Node) → r ≡ get_or below 1 r → set (set below 0 left) 1 r ≡ set below 0 left
right_stays below left r e = ap (λ (n : Node). set (set below 0 left) 1 n) (right_there below left r e) ∙ set-get_or (set below 0 left) 1 r
