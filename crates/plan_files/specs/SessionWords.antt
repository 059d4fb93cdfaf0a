-- Session words. This project's own.
use Rattle.std.specs.Prelude.{ℕ, Bool, ◌&&◌, List, length}
use Rattle.std.specs.Char.{is_ascii_alphanumeric}
use Rattle.std.specs.List.{list_all}
use Rattle.level_plan.specs.Items.{is_between}
use Rattle.plan_files.specs.Limits.{longest_session_word}

-- 1 to 32 letters and digits
abbrev pub is_session_word : List ℕ → Bool
is_session_word bytes =
    is_between 1 longest_session_word (length bytes) && list_all is_ascii_alphanumeric bytes
