-- States, draws and points of the seed 0, worked out by hand.
use Rattle.std.proofs.Common.{◌≡◌, refl, map, pos, negsuc, [], ◌∷◌}
use Rattle.kin_script.specs.Generated.{next_state, state_after, drawn, picked, course_behind}

the_first_states : map (λ n. state_after n 0) (1 ∷ 2 ∷ 3 ∷ 4 ∷ 5 ∷ 6 ∷ 7 ∷ 8 ∷ []) ≡ 1013904223 ∷ 1196435762 ∷ 3519870697 ∷ 2868466484 ∷ 1649599747 ∷ 2670642822 ∷ 1476291629 ∷ 2748932008 ∷ []
unfolding next_state state_after
the_first_states = refl

the_first_draws : map (λ n. drawn (state_after n 0)) (1 ∷ 2 ∷ 3 ∷ 4 ∷ 5 ∷ 6 ∷ 7 ∷ 8 ∷ []) ≡ 15470 ∷ 18256 ∷ 53708 ∷ 43769 ∷ 25170 ∷ 40750 ∷ 22526 ∷ 41945 ∷ []
unfolding next_state state_after drawn
the_first_draws = refl

the_first_point : course_behind 0 ≡ record { x = pos 463; y = negsuc 752; u = pos 1; v = negsuc 4 }
unfolding next_state state_after drawn picked course_behind
the_first_point = refl

the_second_point : course_behind (state_after 4 0) ≡ record { x = pos 158; y = negsuc 269; u = pos 4; v = negsuc 1 }
unfolding next_state state_after drawn picked course_behind
the_second_point = refl
