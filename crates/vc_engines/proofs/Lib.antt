mod EnginesInTurn
