use Rattle.cola_c.proofs.ToolsTold.{grows-done, grows-refused}
use Rattle.cola_c.proofs.tool_laws.grows_are_told.Goals as goal

pub returns-clause-done : goal.returns-clause-done
returns-clause-done c = grows-done

pub returns-clause-refused : goal.returns-clause-refused
returns-clause-refused c = grows-refused
