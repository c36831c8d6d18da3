use Rattle.std.proofs.Common.{◌≡◌, take, ◌++◌, map}
use Rattle.typed_trees.specs.Modules.{imported_of, global_import, global_type}
use Rattle.valid_new.proofs.spaces.all_globals.Given as goal

abbrev pub invariant-loop-global : goal.invariant-loop-global
invariant-loop-global l = l.globals.items ≡ imported_of global_import l.m ++ map global_type (take l.global-index l.m.globals)
