-- What is written of the faults of reading. The words are this project's own.
use Rattle.std.specs.Prelude.{ℕ, List, ◌++◌, codes}
use Rattle.std.specs.Fmt.{decimal}
use Rattle.wasm_frame.specs.declared.sections.FrameFault.TheVariants as frame
use Rattle.module_reading.specs.declared.kind.Kind.{Kind}
use Rattle.module_reading.specs.declared.kind.Kind.TheVariants as kind
use Rattle.module_reading.specs.declared.fault.ReadFault.{ReadFault}
use Rattle.module_reading.specs.declared.fault.ReadFault.TheVariants.{Frame, Section, Body, Counts, Limit, Memory}

-- the word for what a file may have only so many of
abbrev pub word_of : Kind → List ℕ
word_of kind.Types = codes "types"
word_of kind.Imports = codes "imports"
word_of kind.Functions = codes "functions"
word_of kind.Tables = codes "tables"
word_of kind.Memories = codes "memories"
word_of kind.Tags = codes "tags"
word_of kind.Globals = codes "globals"
word_of kind.Exports = codes "exports"
word_of kind.Elements = codes "elements"
word_of kind.Segments = codes "segments"
word_of kind.Parameters = codes "parameters"
word_of kind.Results = codes "results"
word_of kind.Locals = codes "locals"
word_of kind.Payload = codes "payload"
word_of kind.Nesting = codes "nesting"

-- the text of a fault; a place is a decimal number, its highest digit first
abbrev pub text_of : ReadFault → List ℕ
text_of (Frame frame.BadHead) = codes "frame: bad head"
text_of (Frame frame.BadSize) = codes "frame: bad size"
text_of (Frame frame.BadOrder) = codes "frame: bad order"
text_of (Frame (frame.Memory e)) = codes "out of memory"
text_of (Section place) = codes "section " ++ decimal place
text_of (Body place) = codes "body " ++ decimal place
text_of Counts = codes "counts"
text_of (Limit kind) = codes "limit: " ++ word_of kind
text_of (Memory e) = codes "out of memory"
