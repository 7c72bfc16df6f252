-- The way of an actor over the homes that a task takes messages from. Own.
use Rattle.std.specs.Prelude.{ℕ, ◌+◌, nat_lt, if◌then◌else◌}
use Rattle.sq_actions.specs.declared.walk.Walk.{Walk}

-- a walk begins at the first home
abbrev pub new_walk : ℕ → Walk
new_walk task = record { task = task; home = 0; nothings = 0 }

-- the task that a walk is for
abbrev pub task_walked : Walk → ℕ
task_walked walk = walk.task

-- from the last home to the first
abbrev pub home_after : ℕ → ℕ → ℕ
home_after homes home = if nat_lt (home + 1) homes then home + 1 else 0

-- one home more in a row had no message
abbrev pub after_nothing : ℕ → Walk → Walk
after_nothing homes walk = record { task = walk.task; home = home_after homes walk.home; nothings = walk.nothings + 1 }

-- the home answered otherwise, which ends the row
abbrev pub after_other : ℕ → Walk → Walk
after_other homes walk = record { task = walk.task; home = home_after homes walk.home; nothings = 0 }

-- the row starts again
abbrev pub row_again : Walk → Walk
row_again walk = record { task = walk.task; home = walk.home; nothings = 0 }
