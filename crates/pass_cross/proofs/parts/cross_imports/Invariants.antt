use Rattle.std.proofs.Common.{◌≡◌, ◌++◌, drop, map}
use Rattle.crossing.specs.Modules.{cross_import}
use Rattle.pass_cross.proofs.parts.cross_imports.Given as goal

-- what is written so far, with what is still to come, is all
abbrev pub invariant-loop-import : goal.invariant-loop-import
invariant-loop-import l = l.out ++ map cross_import (drop l.import-index l.imports) ≡ map cross_import l.imports
