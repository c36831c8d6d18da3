-- What is seen of files in memory.
use Rattle.tool_files.specs.declared.files.memory.MemFiles.TheInside.{Inside}
use Rattle.tool_files.specs.Memory.{Memory}

-- the fields, but for the allocator
abbrev pub memory_of : Inside → Memory
memory_of m = record {
  files = m.files.items;
  reading = m.reading;
  writing = m.writing;
  most = m.most;
  begins = m.begins;
  takes = m.takes;
  creates = m.creates;
  gives = m.gives;
  read_faults = m.read_faults;
  write_faults = m.write_faults;
}
