mod AnsweredBodies
mod CallsQueueTheirBytes
mod LengthDecides
pub mod MessagesEnd
mod PiecesAreAppended
mod ServingEnds
mod ServingGoesOn
mod ShortBodiesAskNothing
mod WordsHavePlaces
