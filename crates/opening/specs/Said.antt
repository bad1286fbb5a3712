-- What opening a connection says: its number, and the connection. (An enum may hold no array, so the answer is a struct.)
use Rattle.answers.specs.Answers.{Said, number_of}
use Rattle.streams.specs.declared.Conn.{Conn}
use Rattle.opening.specs.declared.Opened.{Opened}

abbrev pub opened_says : Opened → Said Conn
opened_says o = record { number = number_of o.answer; values = o.conn }
