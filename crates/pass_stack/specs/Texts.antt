-- What is written of the entries of the profile's list. The words are this project's own.
use Rattle.std.specs.Prelude.{ℕ, List, ◌++◌, codes}
use Rattle.std.specs.Fmt.{decimal}
use Rattle.wasm_ast.specs.declared.features.kind.Feature.{Feature}
use Rattle.wasm_ast.specs.declared.features.kind.Feature.TheVariants as features
use Rattle.pass_stack.specs.declared.outside.Outside.{Outside}
use Rattle.pass_stack.specs.declared.outside.Outside.TheVariants.{Feature as Shown, ReservedName, MemoryMoved, TooManyPages, NotBuilt}

-- the words for a feature
abbrev pub words_of : Feature → List ℕ
words_of features.Floats = codes "floats"
words_of features.WideTable = codes "wide table"
words_of features.TableInitialiser = codes "table initialiser"
words_of features.ImportedTable = codes "imported table"
words_of features.ImportedTag = codes "imported tag"
words_of features.ImportedMutableGlobal = codes "imported mutable global"
words_of features.ImportedMemory = codes "imported memory"
words_of features.ExportedTable = codes "exported table"
words_of features.WideGlobal = codes "wide global"
words_of features.ExnrefTable = codes "exnref table"
words_of features.HostExnref = codes "host exnref"
words_of features.Sign = codes "sign"
words_of features.Constants = codes "constants"
words_of features.Multi = codes "multi"
words_of features.TypedSelect = codes "typed select"
words_of features.Simd = codes "simd"
words_of features.LateLanes = codes "late lanes"
words_of features.Tail = codes "tail"
words_of features.Refs = codes "refs"
words_of features.Tables = codes "tables"
words_of features.Exceptions = codes "exceptions"
words_of features.Bulk = codes "bulk"
words_of features.WideMemory = codes "wide memory"
words_of features.Memories = codes "memories"

-- the text of an entry; the place of an export is a decimal number, its highest digit first
abbrev pub text_of : Outside → List ℕ
text_of (Shown f) = words_of f
text_of (ReservedName place) = codes "reserved name " ++ decimal place
text_of MemoryMoved = codes "memory moved"
text_of TooManyPages = codes "too many pages"
text_of (NotBuilt f) = codes "not built " ++ words_of f
