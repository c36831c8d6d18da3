use Rattle.std.proofs.Common.{◌≡◌, ℕ, List, Option, inl, inr}
use Rattle.std.specs.Prelude.{◌⊎◌, MatchOption}
use Rattle.wasm_frame.specs.Payloads.{IsRead, optional}
use Rattle.module_reading.specs.declared.sizes.Sizes.{Sizes}
use Rattle.module_reading.specs.Sizes.{IsNumber}
use Rattle.module_reading.proofs.Sized.{sized, number_sized}
use Rattle.read_new.specs.Limits.{mode_depth, element_depth}
use Rattle.read_new.specs.Parts.{export_section, element_section, data_section, tag_section}
use Rattle.read_new.specs.Sizes.{HasSizes}
use Rattle.read_new.specs.Spells.{InGrammar}
use Rattle.read_new.proofs.Forms.{exact_export_section, exact_element_section, exact_data_section, exact_tag_section, exact_start_section}
use Rattle.read_new.proofs.checking.check_from_exports.Goals as goal

-- the start and the data count section
number_section : (id : ℕ) (payload : List ℕ) (o : Option Sizes) → (id ≡ 8) ⊎ (id ≡ 12) → MatchOption o (¬ (IsRead optional payload)) (IsNumber payload)
    → MatchOption o (¬ (InGrammar id payload)) (λ s. InGrammar id payload × HasSizes id payload s)
number_section id payload o (inl e) h = rw e (number_sized exact_start_section payload o h)
number_section id payload o (inr e) h = rw e (number_sized exact_start_section payload o h)

pub returns-in-7 : goal.returns-in-7
returns-in-7 c = rw c.in-7.is (sized export_section exact_export_section (λ x. 0) c.args.payload.now c.vector_sizes.result c.vector_sizes.ensures)

pub returns-in-9 : goal.returns-in-9
returns-in-9 c = rw c.in-9.is (sized element_section exact_element_section element_depth c.args.payload.now c.vector_sizes-in-9.result c.vector_sizes-in-9.ensures)

pub returns-in-11 : goal.returns-in-11
returns-in-11 c = rw c.in-11.is (sized data_section exact_data_section (λ d. mode_depth d.mode) c.args.payload.now c.vector_sizes-in-11.result c.vector_sizes-in-11.ensures)

pub returns-in-13 : goal.returns-in-13
returns-in-13 c = rw c.in-13.is (sized tag_section exact_tag_section (λ x. 0) c.args.payload.now c.vector_sizes-in-13.result c.vector_sizes-in-13.ensures)

pub returns-in-8 : goal.returns-in-8
returns-in-8 c = number_section c.args.id c.args.payload.now c.number_sizes.result c.in-8.is c.number_sizes.ensures
