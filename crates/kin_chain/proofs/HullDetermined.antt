-- The facts of a hull determine its cycle, by its two trees.
use Rattle.std.proofs.Common.{inl, inr, refl, sym, ap, ◌∙◌, subst, List, ℕ, ◌+◌, ◌*◌}
use Rattle.std.specs.Prelude.{◌↔◌}
use Rattle.std.proofs.lemmas.List.Elements.{All-contains, Contains-get_or}
use Rattle.kin_motion.specs.declared.fact.Fact.{Fact}
use Rattle.kin_motion.specs.declared.fact.Placed.{Placed}
use Rattle.kin_motion.specs.Agreements.{FitsSize}
use Rattle.kin_motion.specs.Chains.{IsUpperChain, IsHullCycle}
use Rattle.kin_motion.specs.Kinetics.{HaveSameLive}
use Rattle.kin_motion.specs.Merges.{points_under, IsTreeFact, IsUpperFact, IsLowerFact, IsHullFact}
use Rattle.kin_motion.specs.Numbers.{IsIn}
use Rattle.kin_motion.specs.Sweeps.{AreChains}
use Rattle.kin_motion.specs.Scene.{Scene, IsReal, Holds, placed_at, reflected}
use Rattle.kin_motion.specs.ReflectedFacts.{reflected_fact}
use Rattle.kin_motion.proofs.HullClaims.{settled_states_exist}
use Rattle.kin_motion.proofs.SetLaws.{exactly_in_words}
use Rattle.kin_motion.proofs.ReflectedLaws.{reflected-real}
use Rattle.kin_chain.specs.Trees.{HullIsDetermined}
use Rattle.kin_chain.proofs.NodeChains.{at_root, from_root}
use Rattle.kin_chain.proofs.TreeDetermined.{tree_is_determined}
use Rattle.kin_chain.proofs.Upright.{merge_upright, reflected_back, reflected_alike}

-- ---- one tree
module _ (size : ℕ) (v w : Scene) (real : IsReal v) (real' : IsReal w) (fits : FitsSize size v) (same : HaveSameLive v w) (hold : (p : Placed) → IsTreeFact size v p → Holds w p.fact) where
  fits_there : FitsSize size w
  fits_there i h = fits i (subst (IsIn i) (sym same) h)

  -- each node has the chain that it had
  pub node_stays : (node : ℕ) (chain : List ℕ) → IsUpperChain v (points_under size v node) chain → IsUpperChain w (points_under size w node) chain
  node_stays node chain u =
      let told = (settled_states_exist size v real fits).tree in
      (tree_is_determined size v w node chain told.1 real real' fits same u told.2.exact (λ n d l. hold _ ((told.2.exact.each _).0 (Contains-get_or told.1 n d l)))).0

  same_top : (top : List ℕ) → IsUpperChain v v.live top → IsUpperChain w w.live top
  same_top top u = at_root w size fits_there top real' (node_stays 1 top (from_root v size fits top real u))

  same_tree_facts : (p : Placed) → IsTreeFact size v p ↔ IsTreeFact size w p
  same_tree_facts p =
      let told = (settled_states_exist size v real fits).tree in
      let there = (tree_is_determined size v w 1 told.0 told.1 real real' fits same (from_root v size fits told.0 real told.2.chain) told.2.exact (λ n d l. hold _ ((told.2.exact.each _).0 (Contains-get_or told.1 n d l)))).1 in
      (λ f. (there.each p).0 ((told.2.exact.each p).1 f), λ f. (told.2.exact.each p).0 ((there.each p).1 f))

-- ---- both trees
-- a fact in a part
abbrev placed_in : ℕ → Fact → Placed
placed_in n f = record { part = n; fact = f }

-- where the facts of a tree are those of another scene, so are the facts of its half of the hull
upper_goes : (size : ℕ) (s t : Scene) → ((q : Placed) → IsTreeFact size s q → IsTreeFact size t q) → (p : Placed) → IsUpperFact size s p → IsUpperFact size t p
upper_goes size s t goes p f =
    let g = goes (placed_at s f.node f.form) (record { form = f.form; merge = f.merge; fact = refl }) in
    record { node = f.node; form = g.form; merge = g.merge; fact = f.fact ∙ ap (λ (q : Placed). placed_in (2 * f.node) q.fact) g.fact }

lower_goes : (size : ℕ) (s t : Scene) → IsReal s → IsReal t → ((q : Placed) → IsTreeFact size (reflected s) q → IsTreeFact size (reflected t) q) → (p : Placed) → IsLowerFact size s p → IsLowerFact size t p
lower_goes size s t real real' goes p f =
    let g = goes (placed_at (reflected s) f.node f.form) (record { form = f.form; merge = f.merge; fact = refl }) in
    record {
      node = f.node;
      form = g.form;
      merge = g.merge;
      fact = f.fact ∙ ap (placed_in (2 * f.node + 1)) (sym (reflected_back s f.form real _ _ f.merge) ∙ ap (λ (q : Placed). reflected_fact q.fact) g.fact ∙ reflected_back t g.form real' _ _ g.merge);
    }

-- where all facts that a hull has in one scene hold in another, so do those of each tree
module _ (size : ℕ) (v w : Scene) (real : IsReal v) (real' : IsReal w) (hold : (p : Placed) → IsHullFact size v p → Holds w p.fact) where
  pub upper_holds : (q : Placed) → IsTreeFact size v q → Holds w q.fact
  upper_holds q f =
      subst (λ (x : Placed). Holds w x.fact) (sym f.fact) (hold (placed_at v (2 * q.part) f.form) (inl (record { node = q.part; form = f.form; merge = f.merge; fact = refl })))

  pub lower_holds : (q : Placed) → IsTreeFact size (reflected v) q → Holds (reflected w) q.fact
  lower_holds q f =
      subst (λ (x : Placed). Holds (reflected w) x.fact) (sym f.fact)
      (reflected_alike v w f.form real real' (merge_upright (reflected v) _ _ f.form f.merge) (hold (placed_at v (2 * q.part + 1) f.form) (inr (record { node = q.part; form = f.form; merge = f.merge; fact = refl }))))

module _ (size : ℕ) (v w : Scene) (real : IsReal v) (real' : IsReal w) (fits : FitsSize size v) (same : HaveSameLive v w) (hold : (p : Placed) → IsHullFact size v p → Holds w p.fact) where
  upper_stays : (q : Placed) → IsTreeFact size v q → Holds w q.fact
  upper_stays = upper_holds size v w real real' hold

  lower_stays : (q : Placed) → IsTreeFact size (reflected v) q → Holds (reflected w) q.fact
  lower_stays = lower_holds size v w real real' hold

  same_cycle : (cycle : List ℕ) → IsHullCycle v cycle → IsHullCycle w cycle
  same_cycle cycle c = record {
    lower = c.lower;
    upper = c.upper;
    lower_chain = same_top size (reflected v) (reflected w) (reflected-real v real) (reflected-real w real') fits same lower_stays c.lower c.lower_chain;
    upper_chain = same_top size v w real real' fits same upper_stays c.upper c.upper_chain;
    joined = c.joined;
  }

  -- both chains are those of the other scene, too
  pub same_chains : (upper lower : List ℕ) → AreChains v upper lower → AreChains w upper lower
  same_chains upper lower c = (
    same_top size v w real real' fits same upper_stays upper c.0,
    same_top size (reflected v) (reflected w) (reflected-real v real) (reflected-real w real') fits same lower_stays lower c.1,
  )

  same_hull_facts : (p : Placed) → IsHullFact size v p ↔ IsHullFact size w p
  same_hull_facts p = (to, from)
    where
      to : IsHullFact size v p → IsHullFact size w p
      to (inl f) = inl (upper_goes size v w (λ q. (same_tree_facts size v w real real' fits same upper_stays q).0) p f)
      to (inr f) = inr (lower_goes size v w real real' (λ q. (same_tree_facts size (reflected v) (reflected w) (reflected-real v real) (reflected-real w real') fits same lower_stays q).0) p f)

      from : IsHullFact size w p → IsHullFact size v p
      from (inl f) = inl (upper_goes size w v (λ q. (same_tree_facts size v w real real' fits same upper_stays q).1) p f)
      from (inr f) = inr (lower_goes size w v real' real (λ q. (same_tree_facts size (reflected v) (reflected w) (reflected-real v real) (reflected-real w real') fits same lower_stays q).1) p f)

pub hull_is_determined : HullIsDetermined
hull_is_determined size v w cycle facts real real' fits same is_cycle exact hold = (
  same_cycle size v w real real' fits same held cycle is_cycle,
  exactly_in_words facts (IsHullFact size v) (IsHullFact size w) (same_hull_facts size v w real real' fits same held) exact,
)
  where
    held : (p : Placed) → IsHullFact size v p → Holds w p.fact
    held p f = All-contains (λ (q : Placed). Holds w q.fact) facts p hold ((exact.each p).1 f)
