-- What a command reads and makes.
use Rattle.lower_tool.specs.declared.tool.command.Command.{Command as Given}
use Rattle.lower_tool.specs.declared.tool.command.Command.TheVariants as given
use Rattle.lower_tool.specs.Words.{Command, lower, check, run}

-- the command with its names
abbrev pub command_of : Given → Command
command_of (given.Lower input output room) = lower input.now output.now room
command_of (given.Check version input) = check version input.now
command_of (given.Run version input script turns) = run version input.now script.now turns
