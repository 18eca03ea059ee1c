-- The lists stay lists of the same numbers, and the leaves those of the first list.
use Rattle.std.proofs.Common.{◌≡◌, sym, ap, ◌∙◌, subst, arith, List, [], ℕ, ◌+◌, ◌<◌, ◌≤◌, length, set, replicate, Option, Some, None, inl, inr}
use Rattle.std.specs.Prelude.{slice_get, insert, remove, swap, option_map, ◌⊎◌}
use Rattle.std.proofs.lemmas.Bool.{cases_eq, cases_lt}
use Rattle.std.proofs.lemmas.Option.{slice_get_past}
use Rattle.std.proofs.lemmas.List.Edits.{length-insert, length-remove}
use Rattle.kin_algebra.proofs.Places.{get-insert_below, get-remove_below, get-set_other, get_or-replicate_any}
use Rattle.kin_rank.specs.declared.leaders.Leaders.{Leaders}
use Rattle.kin_rank.specs.declared.lists.Lists.{Lists}
use Rattle.kin_rank.specs.declared.order.Order.{Order}
use Rattle.kin_rank.specs.declared.tree.Tree.{Tree}
use Rattle.kin_rank.specs.Leading.{sole}
use Rattle.kin_rank.specs.Orders.{IsPlaced}
use Rattle.kin_rank.specs.Ranking.{AreSame}
use Rattle.kin_rank.specs.Sound.{AreListed}
use Rattle.kin_rank.specs.Trees.{at_node, leaf, AreLeavesBut, NoNode}
use Rattle.kin_rank.proofs.Members.{exchanged}
use Rattle.kin_rank.proofs.Placing.{below}

-- the lists after a call
pub listed_now : (b : Lists) (f g t : Order) (tree : Tree) → AreListed b → length f.places.items ≡ length b.f.places.items → length g.places.items ≡ length b.g.places.items → length
    t.places.items ≡ length b.t.places.items
    → IsPlaced f.items.items f.places.items → IsPlaced g.items.items g.places.items → IsPlaced t.items.items t.places.items → AreSame f.items.items g.items.items → AreSame f.items.items
    t.items.items
    → AreListed (record { size = b.size; f = f; g = g; t = t; tree = tree })
listed_now b f g t tree l fr gr tr fp gp tp sg st = record {
  few = l.few;
  f_room = fr ∙ l.f_room;
  g_room = gr ∙ l.g_room;
  t_room = tr ∙ l.t_room;
  f_placed = fp;
  g_placed = gp;
  t_placed = tp;
  same_g = sg;
  same_t = st;
}

-- each number of a list is below the room of another
pub within_room : (xs places ds es : List ℕ) → IsPlaced xs places → length ds ≡ length places → es ≡ xs → (p x : ℕ) → slice_get es p ≡ Some x → x < length ds
within_room xs places ds es placed wide e p x h = subst (λ (n : ℕ). x < n) (sym wide) (below xs places placed p x (ap (λ (l : List ℕ). slice_get l p) (sym e) ∙ h))

-- leaves of the same list, as the code sees it
pub leaves_seen : (f e d : List ℕ) (room : ℕ) (nodes : List (Option Leaders)) (bad : ℕ → Type 0) → e ≡ f → length d ≡ room → AreLeavesBut f room nodes bad → AreLeavesBut e (length d) nodes bad
leaves_seen f e d room nodes bad i j leaves = subst (λ (n : ℕ). AreLeavesBut e n nodes bad) (sym j) (subst (λ (l : List ℕ). AreLeavesBut l room nodes bad) (sym i) leaves)

module _ (f : List ℕ) (room : ℕ) (nodes : List (Option Leaders)) (leaves : AreLeavesBut f room nodes NoNode) where
  leaf_is : (p : ℕ) → p < room → at_node nodes (room + p) ≡ leaf f p
  leaf_is p l = elim (leaves p l) [
    | inl e ↦ e
    | inr n ↦ absurd n
  ]

  same_leaf : (f' : List ℕ) (p : ℕ) → p < room → slice_get f' p ≡ slice_get f p → at_node nodes (room + p) ≡ leaf f' p
  same_leaf f' p l e = leaf_is p l ∙ ap (λ (o : Option ℕ). option_map sole o) (sym e)

  pub leaves_exchanged : (f' : List ℕ) (p a b : ℕ) → slice_get f p ≡ Some a → slice_get f (p + 1) ≡ Some b → f' ≡ swap f p (p + 1) → AreLeavesBut f' room nodes (λ q. (q ≡ p) ⊎ (q ≡ p + 1))
  leaves_exchanged f' p a b at_a at_b made q l = elim (cases_eq q p) [
    | inl e ↦ inr (inl e)
    | inr n ↦ elim (cases_eq q (p + 1)) [
      | inl e ↦ inr (inr e)
      | inr m ↦ inl (same_leaf f' q l (ap (λ (zs : List ℕ). slice_get zs q) (made ∙ exchanged f p a b at_a at_b) ∙ get-set_other (set f p b) (p + 1) q a m ∙ get-set_other f p q b n))
    ]
  ]

  pub leaves_inserted : (f' : List ℕ) (p who end : ℕ) → p ≤ length f → f' ≡ insert f p who → end ≡ length f' → AreLeavesBut f' room nodes (λ q. (p ≤ q) × (q < end))
  leaves_inserted f' p who end low made e q l = elim (cases_lt q p) [
    | inl k ↦ inl (same_leaf f' q l (ap (λ (zs : List ℕ). slice_get zs q) made ∙ get-insert_below p q who f k low))
    | inr k ↦ elim (cases_lt q end) [
      | inl m ↦ inr (k, m)
      | inr m ↦ (let long = ap (λ (zs : List ℕ). length zs) made ∙ length-insert f p who low in inl
          (same_leaf f' q l (slice_get_past f' q (omega (arith, m, e)) ∙ sym (slice_get_past f q (omega (arith, m, e, long))))))
    ]
  ]

  pub leaves_removed : (f' : List ℕ) (p end : ℕ) → p < length f → f' ≡ remove f p → end ≡ length f' + 1 → AreLeavesBut f' room nodes (λ q. (p ≤ q) × (q < end))
  leaves_removed f' p end low made e q l = elim (cases_lt q p) [
    | inl k ↦ inl (same_leaf f' q l (ap (λ (zs : List ℕ). slice_get zs q) made ∙ get-remove_below p q f k))
    | inr k ↦ elim (cases_lt q end) [
      | inl m ↦ inr (k, m)
      | inr m ↦ (let long : length f' + 1 ≡ length f = ap (λ (zs : List ℕ). length zs + 1) made ∙ length-remove f p low in inl
          (same_leaf f' q l (slice_get_past f' q (omega (arith, m, e)) ∙ sym (slice_get_past f q (omega (arith, m, e, long))))))
    ]
  ]

-- the leaves of a tree without numbers
pub leaves_vacant : (f : List ℕ) (room end n : ℕ) (nodes : List (Option Leaders)) → nodes ≡ replicate n None → end ≡ length f → AreLeavesBut f room nodes (λ q. (0 ≤ q) × (q < end))
leaves_vacant f room end n nodes made e q l = elim (cases_lt q end) [
  | inl m ↦ inr (omega arith, m)
  | inr m ↦ inl (ap (λ (ns : List (Option Leaders)). at_node ns (room + q)) made ∙ get_or-replicate_any n (room + q) None ∙ ap (λ (o : Option ℕ). option_map sole o)
      (sym (slice_get_past f q (omega (arith, m, e)))))
]

pub no_tree : (nodes : List (Option Leaders)) → nodes ≡ [] → 0 < length nodes → ⊥
no_tree nodes e some = absurd (let f = ap (λ (ns : List (Option Leaders)). length ns) e in omega (arith, f, some))
