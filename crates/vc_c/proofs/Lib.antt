mod AsBox
mod RepliesInRooms
