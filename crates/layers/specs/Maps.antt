-- What a line map owes.
use Rattle.std.specs.Prelude.{ℕ, ◌≤◌}
use Rattle.device.specs.Levels.{Carrying, Carries}

-- the carrying at each width is lawful there
abbrev pub LawfulMap : (ℕ → Carrying) → Type 0
LawfulMap carrying = (n : ℕ) → 1 ≤ n → n ≤ 32 → Carries n (carrying n)
