-- The states in which both runs begin.
use Rattle.std.proofs.lemmas.List.{length-map}
use Rattle.std.proofs.Common.{◌≡◌, ℕ, zero, suc, false, List, [], ◌∷◌, ◌++◌, map, length, Option, Some, None, option_map, refl, sym, ap, ◌∙◌, subst, append_assoc, append-nil}
use Rattle.std.specs.Prelude.{filter_map, replicate}
use Rattle.std.specs.List.{AllByRecursion, cons_option}
use Rattle.std.proofs.lemmas.List.{map-append}
use Rattle.host_kit.specs.declared.script.Script.{Script}
use Rattle.wasm_ast.specs.declared.module.ty.Limits.{Limits}
use Rattle.wasm_ast.specs.declared.module.parts.Global.{Global}
use Rattle.wasm_ast.specs.declared.module.parts.Import.{Import}
use Rattle.wasm_ast.specs.declared.module.parts.ImportDesc.{ImportDesc}
use Rattle.wasm_ast.specs.declared.module.parts.ImportDesc.TheVariants as imports
use Rattle.wasm_ast.specs.declared.module.parts.Table as parts
use Rattle.wasm_ast.specs.declared.module.parts.Module.{Module}
use Rattle.core1_ast.specs.Spaces as spaces1
use Rattle.core1_ast.specs.declared.module.ty.Limits1.{Limits1}
use Rattle.meaning_new.specs.declared.val.Val.{Val}
use Rattle.meaning_new.specs.declared.val.Val.TheVariants.{Null}
use Rattle.meaning_new.specs.Store.{Memory, Table, Store, from_host}
use Rattle.meaning_new.specs.Forms.{function_of}
use Rattle.meaning_new.specs.Instances as new
use Rattle.meaning_core1.specs.declared.val1.Val1.{Val1}
use Rattle.meaning_core1.specs.Store.{Memory1}
use Rattle.meaning_core1.specs.Instances as old
use Rattle.crossing.specs.Modules.{cross, cross_limits, cross_import_desc, cross_import, cross_global}
use Rattle.crossing.specs.States.{cross_value, cross_memory, cross_table, cross_state, IsInteger, StoreIsPlain, ScriptIsPlain}
use Rattle.crossing.specs.Crossing.{ConstantCrosses, imported_globals, PartsCross, first_state}
use Rattle.crossing.proofs.Keeping.{Integers, all_append}
use Rattle.crossing.proofs.Images.{crossed}
use Rattle.crossing.proofs.Constants.{constant-cross, constant_kept, constant_more}
use Rattle.crossing.proofs.Hosts.{froms-cross, froms_plain}

-- the globals: each constant reads imported ones alone
values_more : (gs : List Global) (imported more : List Val) → AllByRecursion (λ (g : Global). ConstantCrosses (length imported) g.init) gs → new.with_globals gs (imported ++ more) ≡ (imported ++ more) ++ map (λ g. new.constant imported g.init) gs
values_more [] imported more h = sym (append-nil (imported ++ more))
values_more (g ∷ gs) imported more h =
    let own : List Val = new.constant imported g.init ∷ [] in
    ap (λ (v : Val). new.with_globals gs ((imported ++ more) ++ v ∷ [])) (constant_more g.init imported more h.0)
    ∙ ap (new.with_globals gs) (append_assoc imported more own)
    ∙ values_more gs imported (more ++ own) h.1
    ∙ ap (λ (l : List Val). l ++ map (λ x. new.constant imported x.init) gs) (sym (append_assoc imported more own))
    ∙ append_assoc (imported ++ more) own (map (λ x. new.constant imported x.init) gs)

values_all : (gs : List Global) (imported : List Val) → AllByRecursion (λ (g : Global). ConstantCrosses (length imported) g.init) gs → new.with_globals gs imported ≡ imported ++ map (λ g. new.constant imported g.init) gs
values_all gs imported h =
    ap (new.with_globals gs) (sym (append-nil imported)) ∙ values_more gs imported [] h
    ∙ ap (λ (l : List Val). l ++ map (λ g. new.constant imported g.init) gs) (append-nil imported)

inits-cross : (gs : List Global) (k : ℕ) (imported : List Val) → AllByRecursion (λ (g : Global). ConstantCrosses k g.init) gs → map (λ g. old.const_value (crossed imported) g.init) (map cross_global gs) ≡ crossed (map (λ g. new.constant imported g.init) gs)
inits-cross [] k imported h = refl
inits-cross (g ∷ gs) k imported h =
    ap (λ (v : Val1). v ∷ map (λ x. old.const_value (crossed imported) x.init) (map cross_global gs)) (constant-cross k g.init h.0 imported)
    ∙ ap (λ (l : List Val1). cross_value (new.constant imported g.init) ∷ l) (inits-cross gs k imported h.1)

inits_kept : (gs : List Global) (k : ℕ) (imported : List Val) → Integers imported → AllByRecursion (λ (g : Global). ConstantCrosses k g.init) gs → Integers (map (λ g. new.constant imported g.init) gs)
inits_kept [] k imported g h = tt
inits_kept (x ∷ gs) k imported g h = (constant_kept k x.init h.0 imported g, inits_kept gs k imported g h.1)

-- memories and tables
filter_map-image : {X X' Y Y' : Type 0} (f : X → X') (g : Y → Y') (h : X → Option Y) (h' : X' → Option Y') → ((x : X) → h' (f x) ≡ option_map g (h x)) → (xs : List X) → filter_map h' (map f xs) ≡ map g (filter_map h xs)
filter_map-image f g h h' e [] = refl
filter_map-image {Y = Y} f g h h' e (x ∷ xs) =
    ap (λ o. cons_option o (filter_map h' (map f xs))) (e x)
    ∙ ap (cons_option (option_map g (h x))) (filter_map-image f g h h' e xs)
    ∙ image_cons (h x) (filter_map h xs)
  where
    image_cons : (o : Option Y) (l : List Y) → cons_option (option_map g o) (map g l) ≡ map g (cons_option o l)
    image_cons None l = refl
    image_cons (Some y) l = refl

memory_desc : (d : ImportDesc) → spaces1.memory_import (cross_import_desc d) ≡ option_map cross_limits (new.memory_import d)
memory_desc (imports.Memory l) = refl
memory_desc d = refl

made_memories : (ls : List Limits) → map old.zero_memory (map cross_limits ls) ≡ map cross_memory (map new.new_memory ls)
made_memories [] = refl
made_memories (l ∷ ls) = ap (λ (ms : List Memory1). old.zero_memory (cross_limits l) ∷ ms) (made_memories ls)

narrow_memories : (ls : List Limits) → AllByRecursion (λ (l : Limits). l.wide ≡ false) ls → AllByRecursion (λ (m : Memory). m.wide ≡ false) (map new.new_memory ls)
narrow_memories [] h = tt
narrow_memories (l ∷ ls) h = (h.0, narrow_memories ls h.1)

memories-cross : (m : Module) → map old.zero_memory (spaces1.all_memories (cross m)) ≡ map cross_memory (new.new_memories m)
memories-cross m =
    ap (λ (l : List Limits1). map old.zero_memory (l ++ map cross_limits m.memories)) (filter_map-image cross_import cross_limits (λ i. new.memory_import i.desc) (λ i. spaces1.memory_import i.desc) (λ i. memory_desc i.desc) m.imports)
    ∙ ap (map old.zero_memory) (sym (map-append cross_limits (filter_map (λ i. new.memory_import i.desc) m.imports) m.memories))
    ∙ made_memories (filter_map (λ i. new.memory_import i.desc) m.imports ++ m.memories)

map-replicate : {A B : Type 0} (f : A → B) (n : ℕ) (a : A) → map f (replicate n a) ≡ replicate n (f a)
map-replicate f zero a = refl
map-replicate f (suc n) a = ap (λ l. f a ∷ l) (map-replicate f n a)

table_desc : (d : ImportDesc) → option_map old.empty_table (spaces1.table_import (cross_import_desc d)) ≡ option_map cross_table (new.table_import d)
table_desc (imports.Table t l) = ap (λ (e : List (Option ℕ)). Some e) (sym (map-replicate function_of l.min (Null t)))
table_desc (imports.Func x) = refl
table_desc (imports.Memory l) = refl
table_desc (imports.Global t mutable) = refl
table_desc (imports.Tag x) = refl

cons_tables : (o : Option Limits1) (r : Option Table) (ls : List Limits1) (ts : List Table) → option_map old.empty_table o ≡ option_map cross_table r → map old.empty_table ls ≡ map cross_table ts → map old.empty_table (cons_option o ls) ≡ map cross_table (cons_option r ts)
cons_tables None None ls ts e f = f
cons_tables None (Some t) ls ts e f = absurd cc
cons_tables (Some l) None ls ts e f = absurd cc
cons_tables (Some l) (Some t) ls ts e f = ap (λ o. cons_option o (map old.empty_table ls)) e ∙ ap (λ (l' : List (List (Option ℕ))). cross_table t ∷ l') f

imported_tables : (is : List Import) → map old.empty_table (filter_map (λ i. spaces1.table_import i.desc) (map cross_import is)) ≡ map cross_table (filter_map (λ i. new.table_import i.desc) is)
imported_tables [] = refl
imported_tables (i ∷ is) =
    cons_tables (spaces1.table_import (cross_import_desc i.desc)) (new.table_import i.desc) (filter_map (λ j. spaces1.table_import j.desc) (map cross_import is)) (filter_map (λ j. new.table_import j.desc) is) (table_desc i.desc) (imported_tables is)

own_tables : (globals : List Val) (ts : List parts.Table) → AllByRecursion (λ (t : parts.Table). t.init ≡ None) ts → map old.empty_table (map (λ t. cross_limits t.limits) ts) ≡ map cross_table (map (λ t. new.new_table (new.first_entry globals t.ty t.init) t.limits) ts)
own_tables globals [] h = refl
own_tables globals (t ∷ ts) h =
    ap (λ (e : List (Option ℕ)). e ∷ map old.empty_table (map (λ x. cross_limits x.limits) ts)) (sym (map-replicate function_of t.limits.min (Null t.ty)))
    ∙ ap (λ o. cross_table (new.new_table (new.first_entry globals t.ty o) t.limits) ∷ map old.empty_table (map (λ x. cross_limits x.limits) ts)) (sym h.0)
    ∙ ap (λ (l : List (List (Option ℕ))). cross_table (new.new_table (new.first_entry globals t.ty t.init) t.limits) ∷ l) (own_tables globals ts h.1)

tables-cross : (m : Module) (globals : List Val) → AllByRecursion (λ (t : parts.Table). t.init ≡ None) m.tables → map old.empty_table (spaces1.all_tables (cross m)) ≡ map cross_table (new.new_tables m globals)
tables-cross m globals h =
    map-append old.empty_table (filter_map (λ i. spaces1.table_import i.desc) (map cross_import m.imports)) (map (λ t. cross_limits t.limits) m.tables)
    ∙ ap (λ (l : List (List (Option ℕ))). l ++ map old.empty_table (map (λ t. cross_limits t.limits) m.tables)) (imported_tables m.imports)
    ∙ ap (λ (l : List (List (Option ℕ))). map cross_table (filter_map (λ i. new.table_import i.desc) m.imports) ++ l) (own_tables globals m.tables h)
    ∙ sym (map-append cross_table (filter_map (λ i. new.table_import i.desc) m.imports) (map (λ t. new.new_table (new.first_entry globals t.ty t.init) t.limits) m.tables))

module _ (m : Module) (script : Script) (plain : ScriptIsPlain script) (parts_cross : PartsCross m) (count : length script.globals ≡ imported_globals m) where
  abbrev imported : List Val
  imported = map from_host script.globals

  in_range : AllByRecursion (λ (g : Global). ConstantCrosses (length imported) g.init) m.globals
  in_range = subst (λ (k : ℕ). AllByRecursion (λ (g : Global). ConstantCrosses k g.init) m.globals) (sym (length-map script.globals from_host ∙ count)) parts_cross.globals

  values-cross : old.global_values1 (cross m) script ≡ crossed (new.all_values m script)
  values-cross =
      ap (λ (l : List Val1). l ++ map (λ g. old.const_value l g.init) (map cross_global m.globals)) (froms-cross script.globals plain.globals)
      ∙ ap (λ (l : List Val1). crossed imported ++ l) (inits-cross m.globals (length imported) imported in_range)
      ∙ sym (map-append cross_value imported (map (λ g. new.constant imported g.init) m.globals))
      ∙ ap crossed (sym (values_all m.globals imported in_range))

  -- the state of the one is the image of that of the other
  pub begins-cross : old.new_state1 (cross m) script ≡ cross_state (first_state m script)
  begins-cross =
      let t : Store = (first_state m script).store in
      ap (λ (l : List Val1). record (old.new_state1 (cross m) script) { store = record (old.new_store (cross m) script) { globals = l } }) values-cross
      ∙ ap (λ (l : List Memory1). record (old.new_state1 (cross m) script) { store = record (old.new_store (cross m) script) { globals = crossed t.globals; memories = l } }) (memories-cross m)
      ∙ ap (λ (l : List (List (Option ℕ))). record (old.new_state1 (cross m) script) { store = record { globals = crossed t.globals; memories = map cross_memory t.memories; tables = l } }) (tables-cross m t.globals parts_cross.tables)

  -- and it is plain
  pub begins_plain : StoreIsPlain (first_state m script).store
  begins_plain = record {
    globals =
        subst Integers (sym (values_all m.globals imported in_range))
        (all_append IsInteger imported (map (λ g. new.constant imported g.init) m.globals) (froms_plain script.globals plain.globals) (inits_kept m.globals (length imported) imported (froms_plain script.globals plain.globals) in_range));
    memories = narrow_memories (filter_map (λ i. new.memory_import i.desc) m.imports ++ m.memories) parts_cross.memories;
    exceptions = refl;
  }
