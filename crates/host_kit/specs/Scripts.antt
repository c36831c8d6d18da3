-- Words on scripts.
use Rattle.std.specs.Prelude.{List, Bool}
use Rattle.host_kit.specs.declared.script.Script.{Script}

-- the script with these answers to growths in place of its own
abbrev pub regrow : List Bool → Script → Script
regrow answers s = record s { grows = answers }
